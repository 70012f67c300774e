-- What the functions of an accepted continue call promise. p is the plan of the files s₁ and s₂.
--   DifferenceShown s₁ s₂ p q n before r after  what showing a difference promises:
--       answer    the vector at place q of the grid, with both outputs, after n vectors
--       kept      past the larger N the scratch slice is as before
--   Advanced s₁ s₂ p σ B before r after         what an accepted call with the session σ and the budget B promises:
--       result    the session handed back and the answer
--       kept      past the larger N the scratch slice is as before
use Rattle.std.specs.Prelude.{List, ◌≡◌, ℕ, max}
use Rattle.fields.specs.File.{sizes_of}
use Rattle.grid.specs.Grid.{grid_vector}
use Rattle.plan.specs.declared.Plan.{Plan}
use Rattle.sessions.specs.Session.{differs_answer, advanced}
use Rattle.sessions.specs.declared.Answer.{Answer}
use Rattle.sessions.specs.declared.Continued.{Continued}
use Rattle.sessions.specs.declared.Session.{Session}
use Rattle.slices.specs.Slices.{KeptPast}

pub record DifferenceShown (s₁ s₂ : List ℕ) (p : Plan) (q n : ℕ) (before : List ℕ) (r : Answer) (after : List ℕ) : Type 0 where
  pub answer : r ≡ differs_answer s₁ s₂ (grid_vector (sizes_of s₁) q) n
  pub kept : KeptPast (max p.n1 p.n2) before after

pub record Advanced (s₁ s₂ : List ℕ) (p : Plan) (σ : Session) (B : ℕ) (before : List ℕ) (r : Continued) (after : List ℕ) : Type 0 where
  pub result : r ≡ advanced s₁ s₂ σ B
  pub kept : KeptPast (max p.n1 p.n2) before after
