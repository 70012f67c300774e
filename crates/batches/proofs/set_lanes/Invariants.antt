-- `batches::set_lanes` meets its contract. The loop's invariant: v is the vector of the last lane set, and the lanes set hold theirs,
-- and the others are as where the loop begins.
-- Assumes nothing.
use mathlib.Core.Path.{◌≡◌}
use mathlib.Core.List.{List}
use Prim.Native.Nat.{ℕ, ◌+◌, ◌-◌, ◌≤◌, ◌<◌}
use lib.ListN.{length, get_or, take}
use Rattle.rows.specs.Rows.{lane}
use Rattle.sizes.specs.Sizes.{max_inputs}
use Rattle.vectors.specs.Vectors.{held_at}
use Rattle.batches.proofs.set_lanes.Given as goal

pub record Columns (w : ℕ) (lows us : List ℕ) (p live : ℕ) (inputs₀ inputs v : List ℕ) (l : ℕ) : Type 0 where
  pub long : length inputs ≡ length inputs₀
  pub vector : v ≡ held_at lows us (p + (l - 1))
  pub whole : length v ≡ max_inputs
  pub columns : (i k : ℕ) → i < max_inputs → k < l → lane w inputs i k ≡ get_or (held_at lows us (p + k)) i 0
  pub others : (i k : ℕ) → l ≤ k → k < w → lane w inputs i k ≡ lane w inputs₀ i k

abbrev pub invariant-loop-l : goal.invariant-loop-l
invariant-loop-l l = Columns l.w l.lows (take l.d l.axes) l.p l.live l.initial.inputs l.inputs l.v l.l
