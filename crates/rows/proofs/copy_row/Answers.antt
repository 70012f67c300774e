-- `rows::copy_row` meets its contract. The loop's invariant: the first l lanes of row k are those of the source's row, the other entries as at
-- entry.
-- Assumes nothing.
use Rattle.rows.proofs.Writing.{row-start, row_step, row_end}
use Rattle.rows.proofs.copy_row.Goals as goal

pub loop-l-preserved : goal.loop-l-preserved
loop-l-preserved c =
    let l = c.loop-l.l in
    let t = c.loop-l-test.true in
    row_step c.loop-l.invariant c.requires.has_row t _ (c.row-x.ensures l t)

pub loop-l-init : goal.loop-l-init
loop-l-init c = row-start _ _ _ _

pub returns : goal.returns
returns c = row_end _ c.loop-l.invariant c.loop-l-test.false
