-- `lanes::run_steps` meets its contract: the rows have 16 lanes or 8.
-- Assumes nothing.
use Rattle.lanes.proofs.Stepped.{width_narrow}
use Rattle.lanes.proofs.run_steps.Goals as goal

pub step_rows-requires : goal.step_rows-requires
step_rows-requires g c = rw c.if-w-eq-LANES.true at c.requires

pub returns-then-w-eq-LANES : goal.returns-then-w-eq-LANES
returns-then-w-eq-LANES g c = rw c.if-w-eq-LANES.true c.step_rows.ensures

pub step_rows-requires-else-w-eq-LANES : goal.step_rows-requires-else-w-eq-LANES
step_rows-requires-else-w-eq-LANES g c = rw (width_narrow c.requires.room.width c.if-w-eq-LANES.false) at c.requires

pub returns-else-w-eq-LANES : goal.returns-else-w-eq-LANES
returns-else-w-eq-LANES g c = rw (width_narrow c.requires.room.width c.if-w-eq-LANES.false) c.step_rows-else-w-eq-LANES.ensures
