-- What comparing two files over a span of the grid's places asks, and what comparing them at a vector promises.
--   Within s₁ s₂ p v scratch            p is the plan of the comparable files s₁ and s₂, the span v is not empty and within the grid, and the scratch
--                                       slice has an entry for each step
--   Tested s₁ s₂ n x before r after     what comparing at the words x of a vector promises:
--       differ    r tells whether the outputs differ there
--       kept      past the first n entries the scratch slice is as before
use Rattle.std.specs.Prelude.{Bool, not, List, ◌≡◌, ℕ, ◌≤◌, ◌<◌, max, eqb, length, take}
use Rattle.evaluate.specs.Run.{word_output}
use Rattle.places.specs.Places.{size}
use Rattle.plan.specs.Plan.{Planned}
use Rattle.plan.specs.declared.Plan.{Plan}
use Rattle.plan.specs.declared.Span.{Span}
use Rattle.slices.specs.Slices.{KeptPast}

pub record Within (s₁ s₂ : List ℕ) (p : Plan) (v : Span) (scratch : List ℕ) : Type 0 where
  pub planned : Planned s₁ s₂ p
  pub some : v.from < v.end
  pub inside : v.end ≤ size (take p.d p.axes)
  pub room : max p.n1 p.n2 ≤ length scratch

pub record Tested (s₁ s₂ : List ℕ) (n : ℕ) (x before : List ℕ) (r : Bool) (after : List ℕ) : Type 0 where
  pub differ : r ≡ not (eqb (word_output s₁ x) (word_output s₂ x))
  pub kept : KeptPast n before after
