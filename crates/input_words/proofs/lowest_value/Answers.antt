-- `input_words::lowest_value` meets its contract: the shift gives the lowest value of a signed input (proofs/Casts).
-- Assumes nothing.
use mathlib.Core.Path.{sym}
use Rattle.input_words.proofs.Casts.{lowest-shifted}
use Rattle.input_words.proofs.InputWords.{lowest-unsigned}
use Rattle.input_words.proofs.lowest_value.Goals as goal

pub returns-then-f : goal.returns-then-f
returns-then-f c = lowest-shifted c.args.f c.if-f.true c.requires

pub returns-else-f : goal.returns-else-f
returns-else-f c = sym (lowest-unsigned c.args.f c.if-f.false)
