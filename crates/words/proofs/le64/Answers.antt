-- `words::le64` meets its contract: the sum of the library's reading is the definition. Assumes nothing.
use mathlib.Core.Path.{◌∙◌}
use lib.Seq.{get_or-take, get_or-drop}
use Rattle.std.proofs.Common.{rules}
use Rattle.words.proofs.Bytes.{sum_through-bytes}
use Rattle.words.proofs.le64.Goals as goal

pub returns : goal.returns
returns c = c.from_le_bytes.ensures ∙ sum_through-bytes 7 c.unwrap.result c.args.s.now c.args.i (λ j h. search (rules, get_or-take, get_or-drop))
