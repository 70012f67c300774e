-- `input_words::signed_value` meets its contract: the machine takes a word as the integer that the definition gives (proofs/Casts).
-- Assumes nothing.
use mathlib.Core.Path.{◌∙◌, ap}
use mir.Syntax.{w64}
use mir.Val.{to_z, of_z}
use mir.ValLaws.{of_z-to_z}
use Rattle.input_words.proofs.Casts.{cast_signed-value}
use Rattle.input_words.proofs.signed_value.Goals as goal

pub returns : goal.returns
returns c = ap (λ r. to_z w64 (of_z w64 r)) c.cast_signed.ensures ∙ ap (to_z w64) (of_z-to_z w64 c.args.w c.ranges.w) ∙ cast_signed-value c.args.w c.ranges.w
