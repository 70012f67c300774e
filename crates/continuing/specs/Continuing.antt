-- What continuing a session promises, for refused input too.
--   Continues s₁ s₂ σ B before r after   the files s₁ and s₂, the session σ and the budget B:
--       answer    the session handed back and the answer
--       scratch   the scratch slice afterwards
use Rattle.std.specs.Prelude.{List, ◌≡◌, ℕ, length}
use Rattle.sessions.specs.Session.{continued, continued_scratch}
use Rattle.sessions.specs.declared.Continued.{Continued}
use Rattle.sessions.specs.declared.Session.{Session}

pub record Continues (s₁ s₂ : List ℕ) (σ : Session) (B : ℕ) (before : List ℕ) (r : Continued) (after : List ℕ) : Type 0 where
  pub answer : r ≡ continued s₁ s₂ σ B (length before)
  pub scratch : after ≡ continued_scratch s₁ s₂ σ B before
