-- `grid_lines::agreeing_lanes` meets its contract, in turn or not.
-- Assumes nothing.
use Rattle.grid_lines.proofs.agreeing_lanes.Goals as goal

pub agreeing_in_turn-requires : goal.agreeing_in_turn-requires
agreeing_in_turn-requires c = record { prepared = c.requires.prepared; turn_value = c.if-shape.true; dependents = c.requires.dependents; fronts = c.requires.fronts }

pub agreeing_apart-requires : goal.agreeing_apart-requires
agreeing_apart-requires c = record { prepared = c.requires.prepared; turn_value = c.if-shape.false; dependents = c.requires.dependents; fronts = c.requires.fronts }
