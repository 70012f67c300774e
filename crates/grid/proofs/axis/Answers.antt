-- `grid::axis` meets its contract: from n = 7 on 2^n is above the bound, which is at most 66.
-- Assumes nothing.
use mathlib.Core.Path.{sym}
use native.Mathlib.Nat.{min-eq_right}
use native.Mathlib.Omega.{arith}
use lib.Pow.{pow_mono}
use Rattle.grid.proofs.axis.Goals as goal

pub returns-then-n-ge7 : goal.returns-then-n-ge7
returns-then-n-ge7 c = (sym (min-eq_right (omega (arith, c.requires, pow_mono c.if-n-ge7.true))), c.requires)
