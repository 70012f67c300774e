-- One turn of the loop that continues a session to its verdict. S vectors have led to the session before it, and the stop is not reached.
-- The call has a budget and the room, so it is accepted: a session that stays open is further on and still below the stop, and one that is
-- closed is at the stop and the answer is the verdict. By what demand 3 says of one call. Assumes nothing.
use mathlib.Core.Path.{◌≡◌, refl, sym, ◌∙◌}
use mathlib.Core.Bool.{true, false}
use mathlib.Core.Logic.{inl, ⊎_elim}
use mathlib.Core.List.{List}
use Prim.Native.Nat.{ℕ, ◌+◌, ◌<◌, ◌≤◌}
use native.Mathlib.Decide.{dec_lt}
use native.Mathlib.Omega.{arith}
use Rattle.engine.specs.Engine.{larger_count}
use Rattle.fields.specs.File.{sizes_of}
use Rattle.grid.specs.Grid.{grid_size}
use Rattle.ranges.proofs.Search.{true_or_false}
use Rattle.sessions.specs.Calls.{Call, answer_to, IsVerdict, accepted_budget}
use Rattle.sessions.specs.Demand3.{OwnFiles, first_place, stop, start}
use Rattle.sessions.specs.Session.{pair_refusal, opened, continued}
use Rattle.sessions.specs.declared.Continued.{Continued}
use Rattle.sessions.specs.declared.Mark.TheVariants.{Open}
use Rattle.sessions.specs.declared.Session.{Session}
use Rattle.sessions.proofs.Pair.{pair-accepted}
use Rattle.sessions.proofs.Step.{mark_open, mark-differ, mark-equal, At, Stepped, own-refused, call_step}
use Rattle.sessions.proofs.Verdict.{stopped, given}
use Rattle.sizes.specs.Sizes.{is_refusal}

-- S vectors have led to the session σ, and the stop is not reached
pub record Under (f₁ f₂ : List ℕ) (S : ℕ) (σ : Session) : Type 0 where
  pub at : At f₁ f₂ S σ
  pub below : S < stop f₁ f₂

-- what comes of a call after S vectors that is answered r
pub record Turned (f₁ f₂ : List ℕ) (S : ℕ) (r : Continued) : Type 0 where
  pub counted : S + r.answer.run ≡ r.session.position
  pub onward : r.session.mark ≡ Open → Under f₁ f₂ (S + r.answer.run) r.session × (0 < r.answer.run)
  pub finished : ¬ (r.session.mark ≡ Open) → IsVerdict r.answer

module _ (f₁ f₂ : List ℕ) (accepted : (opened f₁ f₂).refusal.number ≡ 0) where
  abbrev D : ℕ
  D = stop f₁ f₂

  pair : is_refusal (pair_refusal f₁ f₂) ≡ false
  pair = pair-accepted f₁ f₂ accepted

  stop-least : 0 < D
  stop-least = (stopped f₁ f₂ pair).low

  pub under_start : Under f₁ f₂ 0 (start f₁ f₂)
  unfolding opened
  under_start =
      rw pair
      (record {
        at = record { sizes = refl; position = omega arith; mark = sym (mark_open f₁ f₂ 0 stop-least) };
        below = stop-least;
      })

  module _ (S : ℕ) (σ : Session) (u : Under f₁ f₂ S σ) (B len : ℕ) (b : 0 < B) (room : larger_count f₁ f₂ ≤ len) where
    abbrev call : Call
    call = record { file₁ = f₁; file₂ = f₂; budget = B; scratch = len }

    own : OwnFiles f₁ f₂ call
    own = record { first = refl; second = refl }

    accepts : is_refusal (answer_to σ call).answer.refusal ≡ false
    accepts =
        ⊎_elim
        (λ (e : is_refusal (answer_to σ call).answer.refusal ≡ true).
        absurd
        (⊎_elim
        (λ (k : B ≡ 0). omega arith)
        (⊎_elim (λ (k : len < larger_count f₁ f₂). omega arith) (λ (k : D ≤ S). omega (arith, u.below)))
        ((own-refused f₁ f₂ S σ u.at pair call own).0 e)))
        (λ e. e)
        (true_or_false (is_refusal (answer_to σ call).answer.refusal))

    stepped : Stepped f₁ f₂ S B (continued f₁ f₂ σ B len)
    unfolding answer_to accepted_budget
    stepped = rw accepts at (call_step f₁ f₂ S σ u.at pair call (inl own))

    -- at the stop the session is closed
    open_before-stop : (continued f₁ f₂ σ B len).session.mark ≡ Open → S + B < D
    open_before-stop e =
        elim (dec_lt (S + B) D) [
          | yes l ↦ l
          | no n ↦
              absurd
              (elim (dec_lt (first_place f₁ f₂) (grid_size (sizes_of f₁))) [
                | yes p ↦
                    let m = sym e ∙ stepped.next.mark ∙ mark-differ f₁ f₂ (S + B) (omega arith) p in
                    let q : ◌≡◌ {A = ℕ} 0 1 = cc in
                    omega arith
                | no k ↦
                    let m = sym e ∙ stepped.next.mark ∙ mark-equal f₁ f₂ (S + B) (omega arith) (omega arith) in
                    let q : ◌≡◌ {A = ℕ} 0 1 = cc in
                    omega arith
              ])
        ]

    closed_from_stop : ¬ ((continued f₁ f₂ σ B len).session.mark ≡ Open) → D ≤ S + B
    closed_from_stop n =
        elim (dec_lt (S + B) D) [ yes l ↦ absurd (n (stepped.next.mark ∙ mark_open f₁ f₂ (S + B) l)) | no k ↦ omega arith ]

    pub turned : Turned f₁ f₂ S (continued f₁ f₂ σ B len)
    turned =
        let l = u.below in
        record {
          counted = omega (arith, stepped.run, stepped.next.position);
          onward = λ e.
              let h = open_before-stop e in
              let n : S + (continued f₁ f₂ σ B len).answer.run ≡ S + B = omega (arith, stepped.run) in
              (record { at = rw n stepped.next; below = omega arith }, omega arith);
          finished = λ e.
              let h = closed_from_stop e in
              given f₁ f₂ _ (stepped.verdict l h);
        }
