-- The text of a verdict that is right, after as many vectors as the stop, is what is to be printed: the answer shows the vector and the outputs
-- of the verdict's line. By demand 3 each verdict of a list of calls is such a one. A refused opening's text is that of a continue call, which
-- the files refuse as they refuse opening. Assumes nothing.
use mathlib.Core.Path.{◌≡◌, refl, sym, ◌∙◌, ap}
use mathlib.Core.Bool.{true}
use mathlib.Core.Logic.{inl, inr}
use mathlib.Core.List.{List, ◌++◌}
use Prim.Native.Nat.{ℕ, ◌<◌}
use native.Mathlib.Decide.{dec_lt}
use native.Mathlib.Omega.{arith}
use borrow.Author.Tests.{ne_eqb}
use Rattle.fields.specs.File.{sizes_of}
use Rattle.grid.specs.Grid.{grid_size}
use Rattle.sessions.specs.Calls.{IsVerdict}
use Rattle.sessions.specs.Demand3.{first_place, stop, Settled}
use Rattle.sessions.specs.Session.{pair_refusal, opened, continue_refusal, refused_answer, continued}
use Rattle.sessions.specs.declared.Answer.{Answer}
use Rattle.sessions.specs.declared.Continued.{Continued}
use Rattle.sessions.specs.declared.Kind.TheVariants.{Equivalent, Differs}
use Rattle.sessions.specs.declared.Session.{Session}
use Rattle.sessions.proofs.Cases.{continued-refused}
use Rattle.sessions.proofs.Demand3.{at-verdict}
use Rattle.sizes.specs.Sizes.{is_refusal}
use Rattle.printed.specs.Claims.{ReportedInFull, RefusedReported}
use Rattle.printed.specs.Report.{grid_text, verdict_text, printed, shown_text, concluded, report_of}
use Rattle.printed.specs.Lines.{run_line}
use Rattle.printed.proofs.Printed.{all-equal, not_equal, verdict-equivalent, verdict-differs, printed-lines}
use Rattle.printed.proofs.Shown.{line-equivalent, line-differs}
use Rattle.printed.proofs.Texts.{concluded-lines, report_refused, report_equivalent, report_differs}

module _ (f₁ f₂ : List ℕ) (o : (opened f₁ f₂).refusal.number ≡ 0) where
  abbrev place : ℕ
  place = first_place f₁ f₂

  abbrev G : ℕ
  G = grid_size (sizes_of f₁)

  module _ (a : Answer) (right : Settled f₁ f₂ a) where
    shown-equivalent : a.kind ≡ Equivalent → shown_text a.kind (sizes_of f₁) a ≡ verdict_text f₁ f₂
    shown-equivalent e =
        elim (dec_lt place G) [
          | yes l ↦ absurd (not_equal f₁ f₂ o l (right.equivalent.0 e))
          | no l ↦ line-equivalent (sizes_of f₁) a e ∙ sym (verdict-equivalent f₁ f₂ o (omega arith))
        ]

    shown-differs : a.kind ≡ Differs → shown_text a.kind (sizes_of f₁) a ≡ verdict_text f₁ f₂
    shown-differs e =
        elim (dec_lt place G) [
          | yes l ↦
              let s = right.differs e in
              rw (line-differs (sizes_of f₁) a e, verdict-differs f₁ f₂ o l, s.integers, s.output₁, s.output₂)
          | no l ↦
              let k = right.equivalent.1 (all-equal f₁ f₂ o (omega arith)) in
              absurd (let q : ◌≡◌ {A = ℕ} 0 1 = cc in omega arith)
        ]

    -- the three lines
    whole : shown_text a.kind (sizes_of f₁) a ≡ verdict_text f₁ f₂ → concluded f₁ f₂ a (stop f₁ f₂) ≡ printed f₁ f₂
    whole shown =
        concluded-lines f₁ f₂ o a (stop f₁ f₂)
        ∙ ap (λ (t : List ℕ). grid_text f₁ ++ t ++ run_line (stop f₁ f₂)) shown
        ∙ sym (printed-lines f₁ f₂ o)

    -- the report of a verdict that is right
    verdict-printed : IsVerdict a → report_of f₁ f₂ a (stop f₁ f₂) ≡ printed f₁ f₂
    verdict-printed (inl e) = report_equivalent f₁ f₂ a (stop f₁ f₂) e ∙ whole (shown-equivalent e)
    verdict-printed (inr e) = report_differs f₁ f₂ a (stop f₁ f₂) e ∙ whole (shown-differs e)

pub reported_in_full : ReportedInFull
reported_in_full f₁ f₂ o cs allowed before c after split v =
    let found = at-verdict f₁ f₂ o cs allowed before c after split v in
    ap (report_of f₁ f₂ _) found.1 ∙ verdict-printed f₁ f₂ o _ found.0 v

-- a continue call with a budget is refused as opening is
module _ (f₁ f₂ : List ℕ) (h : ¬ ((opened f₁ f₂).refusal.number ≡ 0)) (σ : Session) (B len : ℕ) (b : 0 < B) where
  as_opening : continue_refusal f₁ f₂ σ B len ≡ (opened f₁ f₂).refusal
  unfolding continue_refusal opened
  as_opening = rw (ne_eqb B 0 (λ e. omega arith), ne_eqb (pair_refusal f₁ f₂).number 0 h)

  refused-answer : refused_answer (opened f₁ f₂).refusal ≡ (continued f₁ f₂ σ B len).answer
  refused-answer =
      let refuses : is_refusal (continue_refusal f₁ f₂ σ B len) ≡ true = rw (as_opening, ne_eqb (opened f₁ f₂).refusal.number 0 h) refl in
      ap refused_answer (sym as_opening) ∙ ap (λ (r : Continued). r.answer) (continued-refused f₁ f₂ σ B len refuses)

pub refused_reported : RefusedReported
unfolding printed refused_answer
refused_reported f₁ f₂ h B len n b =
    let σ = (opened f₁ f₂).session in
    ap (λ (a : Answer). report_of f₁ f₂ a n) (sym (refused-answer f₁ f₂ h σ B len b))
    ∙ report_refused f₁ f₂ (refused_answer (opened f₁ f₂).refusal) n refl
    ∙ rw (ne_eqb (opened f₁ f₂).refusal.number 0 h)
