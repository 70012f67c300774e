-- `reading::failed` meets its contract: the test is on the number that the machine reads back from the answer's bits, which is the answer.
use mathlib.Core.Path.{◌≡◌, refl, ◌∙◌, ap}
use native.Mathlib.Omega.{arith}
use lib.IntN.{ℤ, pos, negsuc}
use lib.Signed.{lt_z}
use borrow.Author.Tests.{le-ltb}
use mir.Facts.{to_z-of_z}
use Rattle.reading.specs.Reading.{failed_read}
use Rattle.reading.proofs.failed.Goals as goal

below : (z : ℤ) → lt_z z (pos 0) ≡ failed_read z
below (pos k) = le-ltb k 0 (omega arith)
below (negsuc k) = refl

pub returns : goal.returns
returns c = ap (λ z. lt_z z (pos 0)) (to_z-of_z c.ranges.got) ∙ below c.args.got
