-- The text of the verdict that the program's own calls come to is what is printed of the files, since these calls are of those that demand 3 is
-- about. And a text is written where an equal one is.
use mathlib.Core.List.{List, [], ◌∷◌, ◌++◌}
use mathlib.Core.Logic.{inl}
use mathlib.Core.Path.{◌≡◌, refl, ◌∙◌, ap₂, subst}
use Prim.Native.Nat.{ℕ, zero, suc}
use lib.ListN.{replicate}
use Rattle.conclusion.specs.Conclusion.{own_call, Concluded}
use Rattle.printed.specs.Report.{report_of, printed}
use Rattle.printed.proofs.InFull.{reported_in_full}
use Rattle.sessions.specs.Calls.{answer_to, IsVerdict}
use Rattle.sessions.specs.Demand3.{Allowed, start}
use Rattle.sessions.specs.Session.{opened}
use Rattle.sessions.specs.declared.Answer.{Answer}
use Rattle.sessions.specs.declared.Session.{Session}
use Rattle.text.specs.Writing.{TextWritten}

module _ (f₁ f₂ : List ℕ) where
  own_allowed : (σ : Session) (k : ℕ) → Allowed f₁ f₂ σ (replicate k (own_call f₁ f₂) ++ own_call f₁ f₂ ∷ [])
  own_allowed σ zero = (inl (record { first = refl; second = refl }), tt)
  own_allowed σ (suc k) = (inl (record { first = refl; second = refl }), own_allowed (answer_to σ (own_call f₁ f₂)).session k)

  pub concluded-text :
      (opened f₁ f₂).refusal.number ≡ 0 → (a : Answer) (n : ℕ) → Concluded f₁ f₂ a n → report_of f₁ f₂ a n ≡ printed f₁ f₂
  concluded-text accepted a n c =
      let made = replicate c.before (own_call f₁ f₂) in
      ap₂ (λ b m. report_of f₁ f₂ b m) c.answer c.run
      ∙ reported_in_full f₁ f₂ accepted (made ++ own_call f₁ f₂ ∷ []) (own_allowed (start f₁ f₂) c.before) made (own_call f₁ f₂) [] refl
      (subst IsVerdict c.answer c.verdict)

pub written_as : {t u before after : List ℕ} {r : ℕ} → t ≡ u → TextWritten t before after r → TextWritten u before after r
written_as {t} {u} {before} {after} {r} e = subst (λ v. TextWritten v before after r) e
