-- The cases of a continue call: refused or accepted, and of an accepted one by the place that the search came to. Assumes nothing.
use mathlib.Core.Path.{◌≡◌, refl}
use mathlib.Core.Bool.{true, false, not}
use mathlib.Core.List.{List, ◌++◌}
use Prim.Native.Nat.{ℕ, ◌+◌, ◌-◌, ◌<◌, ◌≤◌, min}
use native.Mathlib.Omega.{arith}
use lib.Dec.{leb, ltb, eqb}
use lib.ListN.{length, drop, replicate}
use borrow.Author.Tests.{eq-eqb, ne_eqb, lt-ltb, le-ltb, le-leb, lt-leb, ltb-true, ltb-false, not-false}
use Rattle.engine.specs.Engine.{outputs_differ, larger_count}
use Rattle.evaluate.specs.Evaluate.{short_scratch}
use Rattle.fields.specs.File.{sizes_of}
use Rattle.grid.specs.Grid.{grid_size, grid_vector}
use Rattle.ranges.specs.Search.{first}
use Rattle.ranges.proofs.Search.{cond_each}
use Rattle.sizes.specs.Sizes.{refused_by, is_refusal}
use Rattle.sessions.specs.Session.{same_sizes, pair_refusal, misplaced, is_closed, state_refusal, room_refusal, continue_refusal, refused_answer, plain_answer, differs_answer, moved_to, progress, advanced, continued, continued_scratch}
use Rattle.sessions.specs.declared.Answer.{Answer}
use Rattle.sessions.specs.declared.Continued.{Continued}
use Rattle.sessions.specs.declared.Mark.{Mark}
use Rattle.sessions.specs.declared.Mark.TheVariants.{Open, Equal, Differ}
use Rattle.sessions.specs.declared.Kind.TheVariants.{Spent, Equivalent}
use Rattle.sessions.specs.declared.Session.{Session}
use Rattle.sessions.proofs.Pair.{cond_passed}

abbrev pub handed : Session → Answer → Continued
handed σ a = record { session = σ; answer = a }

-- what holds of an accepted call however it ends: with a difference, equivalent, or spent
pub progress-each :
    (P : Continued → Type 0) (s₁ s₂ : List ℕ) (σ : Session) (B G q : ℕ) →
    P (handed (moved_to σ (q + 1) Differ) (differs_answer s₁ s₂ (grid_vector (sizes_of s₁) q) (q + 1 - σ.position))) →
    P (handed (moved_to σ G Equal) (plain_answer Equivalent (G - σ.position))) →
    P (handed (moved_to σ (σ.position + B) Open) (plain_answer Spent B)) →
    P (progress s₁ s₂ σ B G q)
unfolding progress
progress-each P s₁ s₂ σ B G q differs equal spent =
    cond_each P (ltb q (σ.position + min B (G - σ.position))) differs (cond_each P (leb G (σ.position + B)) equal spent)

module _ (s₁ s₂ : List ℕ) (σ : Session) (B G count q : ℕ) (g : G ≡ grid_size (sizes_of s₁)) (n : count ≡ min B (G - σ.position))
    (e : q ≡ first (outputs_differ s₁ s₂) σ.position count) where
  -- the call, by the place that was reached
  by_place : progress s₁ s₂ σ B G q ≡ advanced s₁ s₂ σ B
  unfolding advanced
  by_place = rw (e, n, g)

  pub advanced-differs :
      q < σ.position + count →
      handed (moved_to σ (q + 1) Differ) (differs_answer s₁ s₂ (grid_vector (sizes_of s₁) q) (q + 1 - σ.position)) ≡ advanced s₁ s₂ σ B
  unfolding progress
  advanced-differs l = rw (lt-ltb q (σ.position + min B (G - σ.position)) (omega (arith, n))) at by_place

  module _ (l : σ.position + count ≤ q) (p : σ.position < G) where
    pub advanced-equivalent :
        G - σ.position ≤ B → handed (moved_to σ G Equal) (plain_answer Equivalent (G - σ.position)) ≡ advanced s₁ s₂ σ B
    unfolding progress
    advanced-equivalent h =
        rw
        (le-ltb q (σ.position + min B (G - σ.position)) (omega (arith, n)), le-leb G (σ.position + B) (omega arith))
        at by_place

    pub advanced-spent : B < G - σ.position → handed (moved_to σ (σ.position + B) Open) (plain_answer Spent B) ≡ advanced s₁ s₂ σ B
    unfolding progress
    advanced-spent h =
        rw
        (le-ltb q (σ.position + min B (G - σ.position)) (omega (arith, n)), lt-leb G (σ.position + B) (omega arith))
        at by_place

-- an open session whose position fits is inside the grid
open_inside : (G p : ℕ) (mark : Mark) → misplaced G p mark ≡ false → is_closed mark ≡ false → p < G
unfolding misplaced is_closed
open_inside G p Open m c = ltb-true p G (not-false _ m)
open_inside G p Equal m c = absurd (let q : ◌≡◌ {A = ℕ} 0 1 = cc in omega arith)
open_inside G p Differ m c = absurd (let q : ◌≡◌ {A = ℕ} 0 1 = cc in omega arith)

module _ (s₁ s₂ : List ℕ) (σ : Session) (B len : ℕ) where
  -- what holds of an accepted call
  pub record Passed : Type 0 where
    pub budget : eqb B 0 ≡ false
    pub pair : is_refusal (pair_refusal s₁ s₂) ≡ false
    pub room : larger_count s₁ s₂ ≤ len
    pub same : same_sizes σ.sizes (sizes_of s₁) ≡ true
    pub unclosed : is_closed σ.mark ≡ false
    pub inside : σ.position < grid_size (sizes_of s₁)

  pub passed : is_refusal (continue_refusal s₁ s₂ σ B len) ≡ false → Passed
  unfolding continue_refusal state_refusal
  passed e =
      let p₁ = cond_passed (eqb B 0) (refused_by 11) _ (λ _. refl) e in
      let p₂ = cond_passed (is_refusal (pair_refusal s₁ s₂)) (pair_refusal s₁ s₂) _ (λ r. r) p₁.1 in
      let p₃ = cond_passed (short_scratch (larger_count s₁ s₂) len) (refused_by 12) _ (λ _. refl) p₂.1 in
      let p₄ = cond_passed (not (same_sizes σ.sizes (sizes_of s₁))) (refused_by 101) _ (λ _. refl) p₃.1 in
      let p₅ = cond_passed (misplaced (grid_size (sizes_of s₁)) σ.position σ.mark) (refused_by 102) _ (λ _. refl) p₄.1 in
      let p₆ = cond_passed (is_closed σ.mark) (refused_by 103) (refused_by 0) (λ _. refl) p₅.1 in
      record {
        budget = p₁.0;
        pair = p₂.0;
        room = ltb-false len (larger_count s₁ s₂) p₃.0;
        same = not-false _ p₄.0;
        unclosed = p₆.0;
        inside = open_inside _ _ σ.mark p₅.0 p₆.0;
      }

  pub continued-refused :
      is_refusal (continue_refusal s₁ s₂ σ B len) ≡ true →
      handed σ (refused_answer (continue_refusal s₁ s₂ σ B len)) ≡ continued s₁ s₂ σ B len
  unfolding continued
  continued-refused e = rw e

  pub continued-accepted : is_refusal (continue_refusal s₁ s₂ σ B len) ≡ false → advanced s₁ s₂ σ B ≡ continued s₁ s₂ σ B len
  unfolding continued
  continued-accepted e = rw e

module _ (s₁ s₂ : List ℕ) (σ : Session) (B : ℕ) (scratch : List ℕ) where
  pub scratch-refused : is_refusal (continue_refusal s₁ s₂ σ B (length scratch)) ≡ true → scratch ≡ continued_scratch s₁ s₂ σ B scratch
  unfolding continued_scratch
  scratch-refused e = rw e

  pub scratch-accepted :
      is_refusal (continue_refusal s₁ s₂ σ B (length scratch)) ≡ false →
      replicate (larger_count s₁ s₂) 0 ++ drop (larger_count s₁ s₂) scratch ≡ continued_scratch s₁ s₂ σ B scratch
  unfolding continued_scratch
  scratch-accepted e = rw e

-- a call's refusal, by the tests before it
module _ (s₁ s₂ : List ℕ) (σ : Session) (B len : ℕ) where
  pub by_budget : B ≡ 0 → refused_by 11 ≡ continue_refusal s₁ s₂ σ B len
  unfolding continue_refusal
  by_budget z = rw (eq-eqb B 0 z)

  module _ (some : B ≡ 0 → ⊥) where
    pub by_files : ((pair_refusal s₁ s₂).number ≡ 0 → ⊥) → pair_refusal s₁ s₂ ≡ continue_refusal s₁ s₂ σ B len
    unfolding continue_refusal
    by_files n = rw (ne_eqb B 0 some, ne_eqb _ 0 n)

    module _ (free : (pair_refusal s₁ s₂).number ≡ 0) where
      pub by_room : len < larger_count s₁ s₂ → refused_by 12 ≡ continue_refusal s₁ s₂ σ B len
      unfolding continue_refusal
      by_room l = rw (ne_eqb B 0 some, eq-eqb _ 0 free, lt-ltb len _ l)

      pub by_rest : room_refusal s₁ s₂ σ len ≡ continue_refusal s₁ s₂ σ B len
      unfolding continue_refusal
      by_rest = rw (ne_eqb B 0 some, eq-eqb _ 0 free)
