-- `row_lanes::first_unequal` meets its contract. The loop's invariant: the first lane with unequal entries is the first from l on.
-- Assumes nothing.
use mathlib.Core.Path.{◌≡◌}
use Prim.Native.Nat.{◌-◌}
use Rattle.ranges.specs.Search.{first}
use Rattle.row_lanes.specs.Lanes.{unequal}
use Rattle.row_lanes.proofs.first_unequal.Given as goal

abbrev pub invariant-loop-l : goal.invariant-loop-l
invariant-loop-l l = first (unequal l.w l.m l.rows1 l.a l.rows2 l.b) 0 l.live ≡ first (unequal l.w l.m l.rows1 l.a l.rows2 l.b) l.l (l.live - l.l)
