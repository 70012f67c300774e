-- `grid_calls::grid_call` meets its contract: the file's refusal, and after it zeros, or the axes and G of its sizes.
-- Assumes nothing.
use mathlib.Core.List.{◌∷◌, ◌++◌}
use mathlib.Core.Path.{◌≡◌, sym, ◌∙◌, ap}
use borrow.Author.Tests.{eq-eqb}
use lib.ListN.{length}
use Rattle.file.specs.Check.{file_number, refusal_of}
use Rattle.file.proofs.Sound.{file-sound}
use Rattle.file.proofs.Accepted.{accepted}
use Rattle.file.proofs.Number.{refusal-number, refusal-accepts}
use Rattle.grid.specs.Grid.{grid_of}
use Rattle.grid.specs.declared.Grid.{Grid}
use Rattle.layouts.specs.AnswerWords.{refusal_words}
use Rattle.sizes.specs.Sizes.{max_inputs}
use Rattle.sizes.specs.Answered.{refusal_in}
use Rattle.sizes.proofs.Answered.{is_err-number, not_err-number, refusal_in_answered}
use Rattle.layouts.specs.Lengths.{grid_length}
use Rattle.grid_calls.specs.GridCalls.{grid_as_words, no_grid}
use Rattle.grid_calls.proofs.Answered.{refusal-accepted, grid-refused, grid-accepted}
use Rattle.grid_calls.proofs.Put.{zeros-put, grid-put}
use borrow.Author.Rules.{rules}
use Rattle.grid_calls.proofs.grid_call.Goals.{After-check-judged, After-grid_of-g, Else-is_err}
use Rattle.grid_calls.proofs.grid_call.Goals as goal

shown : (c : After-check-judged) → refusal_in c.check-judged.result ≡ refusal_of 1 c.args.file.now
shown c = ap refusal_in c.check-judged.ensures ∙ refusal_in_answered _ tt (refusal-accepts c.args.file.now 1)

passed : (c : Else-is_err) → file_number c.args.file.now ≡ 0
passed c = sym (refusal-number c.args.file.now 1) ∙ not_err-number _ _ _ c.check-judged.ensures c.if-is_err.ensures.value

pub returns-then-is_err : goal.returns-then-is_err
returns-then-is_err c =
    let long = c.if-out-ne-GRID_LENGTH.false in
    let e = eq-eqb _ grid_length long in
    record {
      result = rw e;
      out =
          rw e
          (zeros-put _ c.args.out.now _ long c.put_refusal.ensures _ c.clear.ensures
          ∙ ap (λ r. refusal_words r ++ no_grid) (shown (goal.at.returns-then-is_err c).After-check-judged)
          ∙ sym
          (grid-refused _ (λ n. is_err-number _ _ _ c.check-judged.ensures c.if-is_err.ensures.value (refusal-number c.args.file.now 1 ∙ n))));
    }

pub read_sizes-requires : goal.read_sizes-requires
read_sizes-requires c = (accepted _ (passed c)).long

pub grid_of-g-requires : goal.grid_of-g-requires
grid_of-g-requires c = rw c.read_sizes.ensures (file-sound _ (accepted _ (passed (goal.at.grid_of-g-requires c).Else-is_err)))

whole : (c : After-grid_of-g) → length c.grid_of-g.result.axes ≡ max_inputs
whole c = search rules

pub returns : goal.returns
returns c =
    let long = c.if-out-ne-GRID_LENGTH.false in
    let e = eq-eqb _ grid_length long in
    let g = c.grid_of-g in
    let f = c.args.file.now in
    record {
      result = rw e;
      out =
          rw e
          (grid-put _ c.args.out.now _ long c.put_refusal.ensures g.result _ (whole (goal.at.returns c).After-grid_of-g) c.copy_front.ensures
          ∙ ap (λ r. refusal_words r ++ grid_as_words g.result) (shown (goal.at.returns c).After-check-judged)
          ∙ ap (λ l. l ++ grid_as_words g.result) (refusal-accepted f (passed (goal.at.returns c).Else-is_err))
          ∙ ap (λ (g : Grid). 0 ∷ 0 ∷ 0 ∷ grid_as_words g) (g.ensures ∙ ap grid_of c.read_sizes.ensures)
          ∙ sym (grid-accepted f (passed (goal.at.returns c).Else-is_err)));
    }
