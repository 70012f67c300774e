-- `answer_words::answer_given` meets its contract: what the words give, where they are an answer.
-- Assumes nothing.
use mathlib.Core.Path.{sym, ◌∙◌}
use Rattle.layouts.proofs.Told.{answer-told}
use Rattle.answer_words.proofs.answer_given.Goals as goal

pub answer_from-requires : goal.answer_from-requires
answer_from-requires c = (answer-told _ (sym c.answer_fits.ensures ∙ c.if-answer_fits.true)).long
