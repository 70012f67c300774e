-- The refusal that a continue call's answer carries: what the call is refused by, or acceptance where every test passes. Assumes nothing.
use mathlib.Core.Bool.{true, false}
use mathlib.Core.List.{List}
use mathlib.Core.Logic.{⊎_elim}
use mathlib.Core.Path.{◌≡◌, refl, sym, ◌∙◌}
use Prim.Native.Nat.{ℕ}
use native.Mathlib.Omega.{arith}
use borrow.Author.Tests.{lt-ltb, le-ltb}
use Rattle.engine.specs.Engine.{larger_count}
use Rattle.fields.specs.File.{sizes_of}
use Rattle.grid.specs.Grid.{grid_size}
use Rattle.ranges.proofs.Search.{true_or_false}
use Rattle.sizes.specs.Sizes.{accepted, is_refusal}
use Rattle.sizes.specs.declared.Refusal.{Refusal}
use Rattle.sessions.specs.Session.{misplaced, is_closed, state_refusal, continue_refusal, refused_answer, plain_answer, differs_answer, progress, advanced, continued}
use Rattle.sessions.specs.declared.Mark.{Mark}
use Rattle.sessions.specs.declared.Mark.TheVariants.{Open, Equal, Differ}
use Rattle.sessions.specs.declared.Continued.{Continued}
use Rattle.sessions.specs.declared.Session.{Session}
use Rattle.sessions.proofs.Cases.{Passed, passed, progress-each}
use Rattle.sessions.proofs.Pair.{pair-taken, comparable}

-- the answer to an accepted call is no refusal
progress-accepts : (s₁ s₂ : List ℕ) (σ : Session) (B G q : ℕ) → (progress s₁ s₂ σ B G q).answer.refusal ≡ accepted
unfolding differs_answer plain_answer
progress-accepts s₁ s₂ σ B G q = progress-each (λ (c : Continued). c.answer.refusal ≡ accepted) s₁ s₂ σ B G q refl refl refl

pub open_mark : (mark : Mark) → is_closed mark ≡ false → mark ≡ Open
unfolding is_closed
open_mark Open e = refl
open_mark Equal e = absurd (let q : ◌≡◌ {A = ℕ} 0 1 = cc in omega arith)
open_mark Differ e = absurd (let q : ◌≡◌ {A = ℕ} 0 1 = cc in omega arith)

module _ (s₁ s₂ : List ℕ) (σ : Session) (B len : ℕ) where
  abbrev R : Refusal
  R = continue_refusal s₁ s₂ σ B len

  pub passed-accepted : Passed s₁ s₂ σ B len → R ≡ accepted
  unfolding continue_refusal state_refusal misplaced is_closed
  passed-accepted p =
      rw (
        p.budget,
        pair-taken s₁ s₂ (comparable s₁ s₂ p.pair),
        le-ltb len (larger_count s₁ s₂) p.room,
        p.same,
        open_mark σ.mark p.unclosed,
        lt-ltb σ.position (grid_size (sizes_of s₁)) p.inside,
      )

  pub carried : (continued s₁ s₂ σ B len).answer.refusal ≡ R
  unfolding continued advanced refused_answer
  carried =
      ⊎_elim
      (λ (e : is_refusal R ≡ true). rw e)
      (λ (e : is_refusal R ≡ false). rw e (progress-accepts s₁ s₂ σ B _ _ ∙ sym (passed-accepted (passed s₁ s₂ σ B len e))))
      (true_or_false (is_refusal R))
