-- `row_lanes::set_column` meets its contract. The loop's invariant: lane l of the first i rows holds the first i entries of v, the other entries
-- are as at entry.
-- Assumes nothing.
use mathlib.Core.Path.{◌≡◌}
use Prim.Native.Nat.{◌+◌, ◌*◌}
use lib.ListN.{get_or}
use Rattle.rows.proofs.Writing.{Put}
use Rattle.row_lanes.proofs.set_column.Given as goal

abbrev pub invariant-loop-i : goal.invariant-loop-i
invariant-loop-i l = Put l.initial.rows l.rows (λ j. l.w * j + l.l) (λ j v. v ≡ get_or l.v j 0) l.i
