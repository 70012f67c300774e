-- `walk::by_places` meets its contract. The loop's invariant: v holds the vector at place p while p is before the end, the outputs
-- agree at every place passed, and the scratch entries past the larger count are as at entry.
-- Assumes nothing.
use mathlib.Core.Path.{◌≡◌}
use mathlib.Core.List.{List}
use Prim.Native.Nat.{ℕ, ◌-◌, ◌≤◌, ◌<◌, max}
use lib.ListN.{length, take, drop}
use Rattle.plan.specs.Comparison.{outputs_differ}
use Rattle.plan.specs.declared.Plan.{Plan}
use Rattle.plan.specs.declared.Span.{Span}
use Rattle.ranges.specs.Search.{first}
use Rattle.sizes.specs.Sizes.{max_inputs}
use Rattle.vectors.specs.Vectors.{held_at}
use Rattle.walk.specs.Walk.{Within}
use Rattle.walk.proofs.by_places.Given as goal

pub record Passed (s₁ s₂ : List ℕ) (g : Plan) (h : Span) (scratch₀ scratch v : List ℕ) (p : ℕ) : Type 0 where
  pub span : Within s₁ s₂ g h scratch₀
  pub long : length scratch ≡ length scratch₀
  pub kept : drop (max g.n1 g.n2) scratch ≡ drop (max g.n1 g.n2) scratch₀
  pub within : p ≤ h.end
  pub full : length v ≡ max_inputs
  pub vector : p < h.end → v ≡ held_at g.lows (take g.d g.axes) p
  pub same : first (outputs_differ s₁ s₂) h.from (h.end - h.from) ≡ first (outputs_differ s₁ s₂) p (h.end - p)

abbrev pub invariant-loop-p : goal.invariant-loop-p
invariant-loop-p l = Passed l.file1 l.file2 l.plan l.span l.initial.scratch l.scratch l.v l.p
