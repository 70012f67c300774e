-- A search over no place at all answers with its start.
-- Assumes nothing.
use mathlib.Core.List.{List}
use mathlib.Core.Path.{◌≡◌, ap, ◌∙◌}
use Prim.Native.Nat.{ℕ}
use Rattle.plan.specs.Comparison.{outputs_differ}
use Rattle.ranges.specs.Search.{first}
use Rattle.ranges.proofs.Search.{first-empty}

pub first_of_none : (s₁ s₂ : List ℕ) (p n : ℕ) → n ≡ 0 → first (outputs_differ s₁ s₂) p n ≡ p
first_of_none s₁ s₂ p n e = ap (first (outputs_differ s₁ s₂) p) e ∙ first-empty _ _
