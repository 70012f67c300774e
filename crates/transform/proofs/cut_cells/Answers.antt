-- `transform::cut_cells` meets its contract. The loop has the cells before this one cut and the others as they were.
-- Assumes nothing.
use Rattle.std.proofs.Common.{ℕ, ◌%◌, ◌^◌, set, ap, ◌∙◌, arith, rules}
use Rattle.std.proofs.lemmas.List.Edits.{map_over_more}
use Rattle.transform.proofs.cut_cells.Goals as goal

pub loop-x-preserved : goal.loop-x-preserved
loop-x-preserved c =
    let a = c.args in
    let l = c.loop-x in
    ap (set l.cells l.x-index) c.cut.ensures
    ∙ map_over_more (λ (x : ℕ). x % 2 ^ a.m) a.cells.now l.cells l.x-index _ (omega arith) l.invariant (search rules)
