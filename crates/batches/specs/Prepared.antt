-- What running two files in lanes asks. Files that are not run in turn have rows of their own each. Files that are run in turn share their rows, and the
-- other slice has rows for the outputs of file 1, one for each value of the last input.
--   max_axis                           the largest value of an axis, L(64)
--   Prepared v s₁ s₂ p rows other     p is the plan of the comparable files s₁ and s₂, and the slices have rows for their steps in the shape v
use Rattle.std.specs.Prelude.{true, false, ◌≡◌, List, ℕ, ◌*◌, ◌≤◌, length}
use Rattle.bound.specs.Bound.{max_bound}
use Rattle.lanes.specs.Lanes.{Width}
use Rattle.plan.specs.Plan.{Planned}
use Rattle.plan.specs.declared.Plan.{Plan}
use Rattle.batches.specs.declared.Shape.{Shape}

abbrev pub max_axis : ℕ
max_axis = max_bound

pub record Prepared (v : Shape) (s₁ s₂ : List ℕ) (p : Plan) (rows other : List ℕ) : Type 0 where
  pub width : Width v.w
  pub planned : Planned s₁ s₂ p
  pub room₁ : v.w * p.n1 ≤ length rows
  pub room₂ : v.turn ≡ false → v.w * p.n2 ≤ length other
  pub shared : v.turn ≡ true → v.w * p.n2 ≤ length rows
  pub saved : v.turn ≡ true → v.w * max_axis ≤ length other
