-- `writing::put_numbers` meets its contract. The loop's invariant: the first i numbers are written, up to the next index.
-- Assumes nothing.
use Prim.Native.Nat.{◌≤◌}
use mathlib.Core.Path.{◌≡◌}
use lib.ListN.{length, take}
use Rattle.text.specs.Text.{spaced}
use Rattle.text.specs.Writing.{Put}
use Rattle.writing.proofs.put_numbers.Given as goal

abbrev pub invariant-loop-n : goal.invariant-loop-n
invariant-loop-n l = (l.n-index ≤ length l.ns) × (length l.text ≡ length l.initial.text) × Put (spaced (take l.n-index l.ns)) l.initial.text l.text l.at l.next
