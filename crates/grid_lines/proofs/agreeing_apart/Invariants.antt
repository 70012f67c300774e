-- `grid_lines::agreeing_apart` meets its contract. The loop's invariant is `Agreed`: in the agreeing lanes the outputs agree at every value of the last
-- input below t, and the rows hold the values at t - 1.
-- Assumes nothing.
use Rattle.grid_lines.specs.Lines.{last_low}
use Rattle.grid_lines.proofs.Lines.{Agreed}
use Rattle.grid_lines.proofs.agreeing_apart.Given as goal

abbrev pub invariant-loop-t : goal.invariant-loop-t
invariant-loop-t l = Agreed l.shape.w l.file1 l.file2 l.plan.n1 l.plan.n2 l.plan.d (last_low l.plan) l.initial.inputs l.initial.rows l.initial.other l.rows l.other l.inputs l.agreeing l.t
