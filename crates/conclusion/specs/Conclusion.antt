-- A session continued to its verdict (document 01, 'Sessions' and 'Pairs').
--   call_budget              the budget of each continue call
--   own_call f₁ f₂           a continue call with these files, that budget and a scratch slice of max_steps entries
--   OwnCalls f₁ f₂          its fields, with the budget as a number. Proved in proofs/Own
--   Concluded f₁ f₂ a n     the session that opening gave was continued by such calls alone, to the verdict a, and all calls together ran n vectors
use Rattle.std.specs.Prelude.{◌≡◌, List, [], ◌∷◌, ◌++◌, ℕ, replicate}
use Rattle.file.specs.Check.{max_steps}
use Rattle.sessions.specs.Calls.{Call, answer_to, session_after, answers, IsVerdict, vectors_run}
use Rattle.sessions.specs.Demand3.{start}
use Rattle.sessions.specs.declared.Answer.{Answer}

abbrev pub call_budget : ℕ
call_budget = 1000000

abbrev pub own_call : List ℕ → List ℕ → Call
own_call f₁ f₂ = record { file₁ = f₁; file₂ = f₂; budget = call_budget; scratch = max_steps }

pub record OwnCalls (f₁ f₂ : List ℕ) : Type 0 where
  pub first : (own_call f₁ f₂).file₁ ≡ f₁
  pub second : (own_call f₁ f₂).file₂ ≡ f₂
  pub budget : (own_call f₁ f₂).budget ≡ 1000000
  pub scratch : (own_call f₁ f₂).scratch ≡ max_steps

pub record Concluded (f₁ f₂ : List ℕ) (a : Answer) (n : ℕ) : Type 0 where
  -- so many calls came before the one that gave the verdict
  pub before : ℕ
  pub answer : a ≡ (answer_to (session_after (start f₁ f₂) (replicate before (own_call f₁ f₂))) (own_call f₁ f₂)).answer
  pub verdict : IsVerdict a
  pub run : n ≡ vectors_run (answers (start f₁ f₂) (replicate before (own_call f₁ f₂) ++ own_call f₁ f₂ ∷ []))
