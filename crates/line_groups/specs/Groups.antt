-- What comparing whole lines, one group after another, asks and promises.
--   Lists p list₁ list₂ flags          the lists have room for the steps of their file, and the flags for those of either
--   Agreed s₁ s₂ p v before r after    what passing over lines of the span v promises:
--       low, high     line r is in the span, or its end
--       agree         the outputs agree at every place of the lines before it
--       kept          past the larger N the flags are as before
use Rattle.std.specs.Prelude.{false, List, ◌≡◌, ℕ, ◌*◌, ◌≤◌, ◌<◌, max, length}
use Rattle.grid_lines.specs.Lines.{last_axis}
use Rattle.plan.specs.Comparison.{outputs_differ}
use Rattle.plan.specs.declared.Plan.{Plan}
use Rattle.plan.specs.declared.Span.{Span}
use Rattle.slices.specs.Slices.{KeptPast}

pub record Lists (p : Plan) (list₁ list₂ flags : List ℕ) : Type 0 where
  pub room₁ : p.n1 ≤ length list₁
  pub room₂ : p.n2 ≤ length list₂
  pub flagged : max p.n1 p.n2 ≤ length flags

pub record Agreed (s₁ s₂ : List ℕ) (p : Plan) (v : Span) (before : List ℕ) (r : ℕ) (after : List ℕ) : Type 0 where
  pub low : v.from ≤ r
  pub high : r ≤ v.end
  pub agree : (q : ℕ) → v.from * last_axis p ≤ q → q < r * last_axis p → outputs_differ s₁ s₂ q ≡ false
  pub kept : KeptPast (max p.n1 p.n2) before after
