-- `transform::passes` meets its contract. Before the axis i, the blocks of the grid of the axes from i on are done, and w is its size.
-- Assumes nothing.
use Rattle.std.proofs.Common.{◌≡◌, not, nat_eq, drop}
use Rattle.places.specs.Places.{size}
use Rattle.rounds.specs.Passes.{factor}
use Rattle.transform.specs.Transform.{blockwise}
use Rattle.transform.proofs.passes.Given as goal

abbrev pub invariant-loop-i : goal.invariant-loop-i
invariant-loop-i g l =
    (l.w ≡ size (drop l.i l.axes))
    × (l.cells ≡ blockwise (factor (not (nat_eq g.row.SUM 0))) (drop l.i l.axes) l.initial.cells)
