-- `line_groups::agreed_lines` meets its contract. The loop's invariant: the outputs agree at every place of the lines from the first of the span to before r.
-- Assumes nothing.
use mathlib.Core.Bool.{false}
use mathlib.Core.List.{List}
use mathlib.Core.Path.{◌≡◌}
use Prim.Native.Nat.{ℕ, ◌*◌, ◌-◌, ◌≤◌, ◌<◌}
use lib.ListN.{length, take}
use Rattle.batches.specs.Prepared.{Prepared}
use Rattle.batches.specs.declared.Shape.{Shape}
use Rattle.plan.specs.Comparison.{outputs_differ}
use Rattle.plan.specs.declared.Plan.{Plan}
use Rattle.places.specs.Places.{size}
use Rattle.rows.specs.Rows.{max_lanes}
use Rattle.sizes.specs.Sizes.{max_inputs}
use Rattle.grid_lines.specs.Lines.{last_axis}
use Rattle.line_groups.proofs.agreed_lines.Given as goal

pub record Passed (v : Shape) (s₁ s₂ : List ℕ) (g : Plan) (from stop : ℕ) (rows₁₀ rows₂₀ rows₁ rows₂ inputs : List ℕ) (r : ℕ) : Type 0 where
  pub prepared : Prepared v s₁ s₂ g rows₁ rows₂
  pub long₁ : length rows₁ ≡ length rows₁₀
  pub long₂ : length rows₂ ≡ length rows₂₀
  pub lanes : length inputs ≡ max_lanes * max_inputs
  pub enough : g.d ≤ length g.axes
  pub inside : stop * last_axis g ≤ size (take g.d g.axes)
  pub low : from ≤ r
  pub high : r ≤ stop
  pub agree : (p : ℕ) → from * last_axis g ≤ p → p < r * last_axis g → outputs_differ s₁ s₂ p ≡ false

abbrev pub invariant-loop-r : goal.invariant-loop-r
invariant-loop-r l = Passed l.shape l.file1 l.file2 l.plan l.initial.r l.span.end l.initial.rows l.initial.other l.rows l.other l.inputs l.r

abbrev pub decreases-loop-r : goal.decreases-loop-r
decreases-loop-r l = l.span.end - l.r
