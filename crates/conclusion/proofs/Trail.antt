-- The calls that the program has made: each continues the session that the one before it handed back. One call more leads on to the session that it
-- hands back and adds the vectors that it ran. By the laws of a list with one call more.
use mathlib.Core.List.{List, [], ◌∷◌, ◌++◌}
use mathlib.Core.Path.{◌≡◌, refl, sym, ◌∙◌, ap}
use Prim.Native.Nat.{ℕ, zero, suc, ◌+◌}
use native.Mathlib.Omega.{arith}
use lib.ListN.{replicate}
use Rattle.sessions.specs.Calls.{Call, answer_to, session_after, answers, IsVerdict, vectors_run}
use Rattle.sessions.specs.Demand3.{start}
use Rattle.sessions.specs.declared.Continued.{Continued}
use Rattle.sessions.specs.declared.Session.{Session}
use Rattle.sessions.proofs.Calls.{session_snoc, run_snoc}
use Rattle.conclusion.specs.Conclusion.{own_call, Concluded}

-- the program's own calls have led to the session σ, and ran S vectors
pub record Trail (f₁ f₂ : List ℕ) (S : ℕ) (σ : Session) : Type 0 where
  pub calls : ℕ
  pub session : σ ≡ session_after (start f₁ f₂) (replicate calls (own_call f₁ f₂))
  pub run : S ≡ vectors_run (answers (start f₁ f₂) (replicate calls (own_call f₁ f₂)))

replicate_snoc : {A : Type 0} (k : ℕ) (a : A) → replicate (suc k) a ≡ replicate k a ++ a ∷ []
replicate_snoc zero a = refl
replicate_snoc (suc k) a = ap (λ l. a ∷ l) (replicate_snoc k a)

module _ (f₁ f₂ : List ℕ) where
  pub trail_start : Trail f₁ f₂ 0 (start f₁ f₂)
  unfolding session_after answers vectors_run
  trail_start = record { calls = 0; session = refl; run = refl }

  module _ (S : ℕ) (σ : Session) (t : Trail f₁ f₂ S σ) (r : Continued) (e : r ≡ answer_to σ (own_call f₁ f₂)) where
    abbrev own : Call
    own = own_call f₁ f₂

    abbrev made : List Call
    made = replicate t.calls own

    last : r ≡ answer_to (session_after (start f₁ f₂) made) own
    last = e ∙ ap (λ q. answer_to q own) t.session

    ran : S + r.answer.run ≡ vectors_run (answers (start f₁ f₂) (made ++ own ∷ []))
    ran = omega (arith, t.run, ap (λ (c : Continued). c.answer.run) last, run_snoc (start f₁ f₂) made own)

    pub trail_step : Trail f₁ f₂ (S + r.answer.run) r.session
    trail_step =
        record {
          calls = suc t.calls;
          session = ap (λ (c : Continued). c.session) last
              ∙ sym (session_snoc (start f₁ f₂) made own)
              ∙ ap (session_after (start f₁ f₂)) (sym (replicate_snoc t.calls own));
          run = ran ∙ ap (λ cs. vectors_run (answers (start f₁ f₂) cs)) (sym (replicate_snoc t.calls own));
        }

    pub trail_end : IsVerdict r.answer → Concluded f₁ f₂ r.answer (S + r.answer.run)
    trail_end v =
        record { before = t.calls; answer = ap (λ (c : Continued). c.answer) last; verdict = v; run = ran }
