-- `table_calls::transform_call` meets its contract: the answer of `transform_cells` on the sizes that the words give, as words.
-- Assumes nothing.
use mathlib.Core.Path.{refl, sym, ◌∙◌, ap}
use lib.ListN.{length}
use Rattle.cells.specs.Cells.{cells_refusal}
use Rattle.cells.proofs.Answers.{cells-accepts}
use Rattle.layouts.specs.AnswerWords.{refusal_words}
use Rattle.layouts.specs.Lengths.{refusal_length}
use Rattle.layouts.proofs.Given.{some_fits, some_value, none_fits}
use Rattle.layouts.proofs.Written.{all-written}
use Rattle.sizes.specs.Answered.{refusal_in}
use Rattle.sizes.proofs.Answered.{refusal_in_answered}
use Rattle.tables.specs.Tables.{transformed}
use Rattle.table_calls.proofs.Calls.{cells-out-wrong, cells-judged, transform_wrong, transform_right}
use Rattle.table_calls.proofs.transform_call.Goals as goal

pub returns-then-out-ne-REFUSAL_LENGTH : goal.returns-then-out-ne-REFUSAL_LENGTH
returns-then-out-ne-REFUSAL_LENGTH c = transform_wrong _ _ _ _ _ (cells-out-wrong _ _ c.if-out-ne-REFUSAL_LENGTH.true)

pub returns-in_default : goal.returns-in_default
returns-in_default c =
    transform_wrong _ _ _ _ _ (cells-judged _ _ c.if-out-ne-REFUSAL_LENGTH.false ∙ none_fits _ _ (sym c.in_default.is ∙ c.sizes_given.ensures))

pub returns : goal.returns
returns c =
    let long = c.if-out-ne-REFUSAL_LENGTH.false in
    let a = c.args in
    let given = sym c.in-Some.is ∙ c.sizes_given.ensures in
    let z = some_value _ _ _ given in
    transform_right _ _ _ _ _ _ _ (cells-judged _ _ long ∙ some_fits _ _ _ given)
    (c.put_refusal.ensures
    ∙ all-written refusal_length _ a.out.now refl long
    ∙ ap (λ r. refusal_words (refusal_in r)) c.transform_cells.ensures.answer
    ∙ ap refusal_words (refusal_in_answered _ tt (cells-accepts _ _ _) ∙ ap (λ z. cells_refusal z a.cells.now (length a.res.now)) z))
    (c.transform_cells.ensures.result ∙ ap (λ z. transformed a.sum z a.cells.now a.res.now) z)
