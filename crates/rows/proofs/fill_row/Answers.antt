-- `rows::fill_row` meets its contract. The loop's invariant: the first l lanes of row k are x, the other entries as at entry.
-- Assumes nothing.
use mathlib.Core.Path.{refl}
use Rattle.rows.proofs.Writing.{row-start, row_step, row_end}
use Rattle.rows.proofs.fill_row.Goals as goal

pub loop-l-init : goal.loop-l-init
loop-l-init c = row-start _ _ _ _

pub loop-l-preserved : goal.loop-l-preserved
loop-l-preserved c = row_step c.loop-l.invariant c.requires c.loop-l-test.true _ refl

pub returns : goal.returns
returns c = row_end _ c.loop-l.invariant c.loop-l-test.false
