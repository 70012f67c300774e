-- `row_lanes::first_unequal` meets its contract. The loop's invariant: the first lane with unequal entries is the first from l on.
-- Assumes nothing.
use mathlib.Core.Bool.{true, false}
use mathlib.Core.List.{List}
use mathlib.Core.Path.{◌≡◌, sym, ◌∙◌}
use Prim.Native.Nat.{ℕ, ◌%◌, ◌^◌}
use native.Mathlib.Omega.{arith}
use borrow.Author.Tests.{eq-eqb, ne_eqb}
use Rattle.rows.specs.Rows.{lane}
use Rattle.ranges.proofs.Search.{first-start, first_step, first-here, first_end}
use Rattle.row_lanes.specs.Lanes.{unequal}
use Rattle.row_lanes.proofs.first_unequal.Goals as goal

-- x and y are the lanes' lowest m bits
module _
    (w m : ℕ) (v : List ℕ) (a : ℕ) (u : List ℕ) (b l x y : ℕ) (left : x ≡ lane w v a l % 2 ^ m) (right : y ≡ lane w u b l % 2 ^ m)
  where
    lanes-differ : ¬ (x ≡ y) → unequal w m v a u b l ≡ true
    unfolding unequal
    lanes-differ d = rw (← left, ← right, ne_eqb x y d)

    lanes-agree : x ≡ y → unequal w m v a u b l ≡ false
    unfolding unequal
    lanes-agree e = rw (← left, ← right, eq-eqb x y e)

pub returns-then-cut : goal.returns-then-cut
returns-then-cut c =
    sym
    (c.loop-l.invariant
    ∙ first-here _ _ _ (lanes-differ _ _ _ _ _ _ _ _ _ c.cut.ensures c.cut-in-loop-l.ensures c.if-cut.true))

pub loop-l-preserved : goal.loop-l-preserved
loop-l-preserved c =
    c.loop-l.invariant
    ∙ first_step _ _ _ c.loop-l-test.true
    (lanes-agree _ _ _ _ _ _ _ _ _ c.cut.ensures c.cut-in-loop-l.ensures c.if-cut.false)

pub loop-l-init : goal.loop-l-init
loop-l-init c = first-start _ _

pub returns : goal.returns
returns c =
    let e : c.args.live ≡ c.loop-l.l = omega arith in
    e ∙ sym (c.loop-l.invariant ∙ first_end _ _ _ c.loop-l-test.false)
