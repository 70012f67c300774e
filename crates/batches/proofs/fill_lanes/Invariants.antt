-- `batches::fill_lanes` meets its contract. The loop's invariant: the rows of the first i inputs hold their lowest values. Where there are as many
-- places as lanes, nothing is promised.
-- Assumes nothing.
use mathlib.Core.List.{List}
use mathlib.Core.Path.{◌≡◌}
use Prim.Native.Nat.{ℕ}
use lib.ListN.{length}
use Rattle.batches.specs.Batch.{Lowest}
use Rattle.batches.proofs.fill_lanes.Given as goal

pub record Filled (w d : ℕ) (lows inputs₀ inputs : List ℕ) (i : ℕ) : Type 0 where
  pub long : length inputs ≡ length inputs₀
  pub rows : Lowest w i lows inputs

abbrev pub invariant-loop-i : goal.invariant-loop-i
invariant-loop-i l = Filled l.w l.d l.lows l.initial.inputs l.inputs l.i
