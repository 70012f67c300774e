-- `batches::by_batches` meets its contract. The loop's invariant: the outputs agree at every place passed, and in
-- every lane the input rows hold a vector of the grid: zeros at first, then those of a batch.
-- Assumes nothing.
use mathlib.Core.List.{List}
use mathlib.Core.Path.{◌≡◌}
use Prim.Native.Nat.{ℕ, ◌*◌, ◌-◌, ◌≤◌, ◌<◌}
use lib.ListN.{length, take}
use Rattle.lanes.specs.Lanes.{LanesOnGrid}
use Rattle.places.specs.Places.{size}
use Rattle.plan.specs.Comparison.{outputs_differ}
use Rattle.plan.specs.declared.Plan.{Plan}
use Rattle.rows.specs.Rows.{max_lanes}
use Rattle.ranges.specs.Search.{first}
use Rattle.sizes.specs.Sizes.{max_inputs}
use Rattle.batches.specs.Prepared.{Prepared}
use Rattle.batches.specs.declared.Shape.{Shape}
use Rattle.batches.proofs.by_batches.Given as goal

pub record Passed (v : Shape) (s₁ s₂ : List ℕ) (g : Plan) (from end : ℕ) (rows₁₀ rows₂₀ rows₁ rows₂ inputs : List ℕ) (p : ℕ) : Type 0 where
  pub prepared : Prepared v s₁ s₂ g rows₁ rows₂
  pub long₁ : length rows₁ ≡ length rows₁₀
  pub long₂ : length rows₂ ≡ length rows₂₀
  pub lanes : length inputs ≡ max_lanes * max_inputs
  pub on_grid : end - p < v.w → LanesOnGrid v.w s₁ inputs
  pub within : p ≤ end
  pub inside : end ≤ size (take g.d g.axes)
  pub same : first (outputs_differ s₁ s₂) from (end - from) ≡ first (outputs_differ s₁ s₂) p (end - p)

abbrev pub invariant-loop-p : goal.invariant-loop-p
invariant-loop-p l = Passed l.shape l.file1 l.file2 l.plan l.from l.end l.initial.rows l.initial.other l.rows l.other l.inputs l.p

abbrev pub decreases-loop-p : goal.decreases-loop-p
decreases-loop-p l = l.end - l.p
