-- Opening and continuing answer the number 0 exactly where their conditions hold: each test passes exactly where its condition does not.
-- Assumes nothing.
use mathlib.Core.Bool.{not}
use mathlib.Core.List.{List}
use mathlib.Core.Path.{◌≡◌, sym, ◌∙◌, ap}
use Prim.Native.Nat.{ℕ}
use native.Mathlib.Omega.{arith}
use lib.ListN.{length}
use borrow.Author.Tests.{eq-eqb, ne_eqb, eqb-false}
use Rattle.engine.specs.Engine.{Comparable}
use Rattle.fields.specs.File.{sizes_of}
use Rattle.fields.proofs.Heads.{length-widths}
use Rattle.sizes.specs.Sizes.{max_inputs, is_refusal}
use Rattle.sizes.specs.declared.Refusal.{Refusal}
use Rattle.sessions.specs.Session.{same_sizes, opened, is_closed, continued}
use Rattle.sessions.specs.Taken.{OpenExactly, ContinueTaken, ContinueExactly}
use Rattle.sessions.specs.declared.Session.{Session}
use Rattle.sessions.proofs.Carried.{open_mark, passed-accepted, carried}
use Rattle.sessions.proofs.Cases.{Passed, passed}
use Rattle.sessions.proofs.Pair.{same-equal, same_refl, pair-taken, pair-accepted, comparable}

opening-zero : (s₁ s₂ : List ℕ) → Comparable s₁ s₂ → (opened s₁ s₂).refusal.number ≡ 0
unfolding opened
opening-zero s₁ s₂ c = ap (λ (r : Refusal). r.number) (pair-taken s₁ s₂ c)

pub open_exactly : OpenExactly
open_exactly s₁ s₂ = (λ e. comparable s₁ s₂ (pair-accepted s₁ s₂ e), opening-zero s₁ s₂)

module _ (s₁ s₂ : List ℕ) (σ : Session) (B len : ℕ) where
  -- what is asked is what the tests pass
  tested : ContinueTaken s₁ s₂ σ B len → Passed s₁ s₂ σ B len
  unfolding is_closed
  tested t =
      record {
        budget = ne_eqb B 0 (λ e. omega (arith, t.call.budget));
        pair = ap is_refusal (pair-taken s₁ s₂ t.call.files);
        room = t.call.room;
        same = ap (λ z. same_sizes z (sizes_of s₁)) t.sizes ∙ same_refl (sizes_of s₁);
        unclosed = ap is_closed t.mark;
        inside = t.position;
      }

  taken : length σ.sizes.widths ≡ max_inputs → (continued s₁ s₂ σ B len).answer.refusal.number ≡ 0 → ContinueTaken s₁ s₂ σ B len
  taken long e =
      let p = passed s₁ s₂ σ B len (ap is_refusal (sym (carried s₁ s₂ σ B len)) ∙ ap not (eq-eqb _ 0 e)) in
      let c = comparable s₁ s₂ p.pair in
      let some = eqb-false B 0 p.budget in
      record {
        call = record { budget = omega (arith, some); files = c; room = p.room };
        sizes = same-equal σ.sizes (sizes_of s₁) long (length-widths s₁) p.same;
        mark = open_mark σ.mark p.unclosed;
        position = p.inside;
      }

  zero : ContinueTaken s₁ s₂ σ B len → (continued s₁ s₂ σ B len).answer.refusal.number ≡ 0
  zero t = ap (λ (r : Refusal). r.number) (carried s₁ s₂ σ B len ∙ passed-accepted s₁ s₂ σ B len (tested t))

pub continue_exactly : ContinueExactly
continue_exactly s₁ s₂ σ B len long = (taken s₁ s₂ σ B len long, zero s₁ s₂ σ B len)
