-- A list of continue calls, each given the session that the one before it handed back (document 01, 'Sessions').
--   Call                two files, a budget, and the length of the scratch slice
--   answer_to σ c        what the call c answers where it is given the session σ
--   session_after σ cs   the session that the last of the calls hands back, or σ itself where there is none
--   answers σ cs        the answers, in order
--   accepted_budget σ c  the budget of the call c where it is accepted, and 0 where it is refused
--   budgets σ cs        S: the sum of the accepted budgets
--   vectors_run l        the sum of the vectors run that the answers carry
--   Each P l            each of the answers has the property P
--   IsRefused a         the answer is a refusal
--   IsVerdict a         the answer gives a verdict: equivalent or differs
use Rattle.std.specs.Prelude.{◌≡◌, true, cond, ◌⊎◌, List, [], ◌∷◌, ℕ, ◌+◌}
use Rattle.sizes.specs.Sizes.{is_refusal}
use Rattle.sessions.specs.Session.{continued}
use Rattle.sessions.specs.declared.Answer.{Answer}
use Rattle.sessions.specs.declared.Continued.{Continued}
use Rattle.sessions.specs.declared.Kind.TheVariants.{Equivalent, Differs}
use Rattle.sessions.specs.declared.Session.{Session}

pub record Call : Type 0 where
  pub file₁ : List ℕ
  pub file₂ : List ℕ
  pub budget : ℕ
  pub scratch : ℕ

unfoldable pub answer_to : Session → Call → Continued
answer_to σ c = continued c.file₁ c.file₂ σ c.budget c.scratch

unfoldable pub session_after : Session → List Call → Session
session_after σ [] = σ
session_after σ (c ∷ cs) = session_after (answer_to σ c).session cs

unfoldable pub answers : Session → List Call → List Answer
answers σ [] = []
answers σ (c ∷ cs) = (answer_to σ c).answer ∷ answers (answer_to σ c).session cs

abbrev pub IsRefused : Answer → Type 0
IsRefused a = is_refusal a.refusal ≡ true

abbrev pub IsVerdict : Answer → Type 0
IsVerdict a = (a.kind ≡ Equivalent) ⊎ (a.kind ≡ Differs)

unfoldable pub accepted_budget : Session → Call → ℕ
accepted_budget σ c = cond (is_refusal (answer_to σ c).answer.refusal) 0 c.budget

unfoldable pub budgets : Session → List Call → ℕ
budgets σ [] = 0
budgets σ (c ∷ cs) = accepted_budget σ c + budgets (answer_to σ c).session cs

unfoldable pub vectors_run : List Answer → ℕ
vectors_run [] = 0
vectors_run (a ∷ rest) = a.run + vectors_run rest

abbrev pub Each : (Answer → Type 0) → List Answer → Type 0
Each P [] = Unit {0}
Each P (a ∷ rest) = P a × Each P rest
