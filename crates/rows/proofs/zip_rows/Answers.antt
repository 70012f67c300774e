-- `rows::zip_rows` meets its contract. The loop's invariant: the first l lanes of row k are what f answers on those of the rows a and b, the other
-- entries as at entry.
-- Assumes nothing.
use Rattle.rows.proofs.Writing.{left-row, right-row, row-start, row_step, row_lanes, row_others}
use Rattle.rows.proofs.zip_rows.Goals as goal

pub row-x-requires : goal.row-x-requires
row-x-requires g c = let o = c.requires.operands in (o.lanes, left-row o)

pub row-y-requires : goal.row-y-requires
row-y-requires g c = let o = c.requires.operands in (o.lanes, right-row o)

pub loop-l-init : goal.loop-l-init
loop-l-init g c = row-start _ _ _ _

pub loop-l-preserved : goal.loop-l-preserved
loop-l-preserved g c =
    let l = c.loop-l.l in
    let t = c.loop-l-test.true in
    row_step c.loop-l.invariant c.requires.operands.room t _ (rw (← c.row-x.ensures l t, ← c.row-y.ensures l t) c.f.ensures)

pub returns : goal.returns
returns g c = record { row = row_lanes c.loop-l.invariant c.loop-l-test.false; others = row_others c.loop-l.invariant }
