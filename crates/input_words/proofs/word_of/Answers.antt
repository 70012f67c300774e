-- `input_words::word_of` meets its contract: the machine takes an integer as the word that the definition gives (proofs/Casts).
-- Assumes nothing.
use mathlib.Core.Path.{◌∙◌, ap}
use mir.Syntax.{w64}
use mir.Val.{of_z}
use mir.ValLaws.{to_z-of_z}
use Rattle.input_words.proofs.Casts.{cast_unsigned-word}
use Rattle.input_words.proofs.word_of.Goals as goal

pub returns : goal.returns
returns c = c.cast_unsigned.ensures ∙ ap (of_z w64) (to_z-of_z w64 c.args.x c.ranges.x) ∙ cast_unsigned-word c.args.x c.ranges.x
