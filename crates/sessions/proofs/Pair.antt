-- Two files judged together: each answer by the tests that lead to it, and what an accepted pair tells: both files are accepted and have the
-- same sizes. Assumes nothing.
use mathlib.Core.Path.{◌≡◌, refl, sym, ◌∙◌, ap}
use mathlib.Core.Bool.{Bool, true, false, not, cond, and-eq-true_iff}
use mathlib.Core.List.{List}
use Prim.Native.Nat.{ℕ}
use native.Mathlib.Omega.{arith}
use lib.Dec.{eqb}
use lib.ListN.{length, get_or}
use lib.Seq.{ext_get_or}
use borrow.Author.Tests.{eq-eqb, ne_eqb, eqb-true, not-false}
use Rattle.engine.specs.Engine.{Comparable}
use Rattle.file.specs.Check.{file_number, refusal_of}
use Rattle.fields.specs.File.{sizes_of}
use Rattle.file.proofs.Accepted.{accepted}
use Rattle.file.proofs.Number.{refusal-number}
use Rattle.file.proofs.Sound.{number_0}
use Rattle.fields.proofs.Heads.{length-widths}
use Rattle.ranges.proofs.Search.{every-at, every_of}
use Rattle.sizes.specs.Sizes.{max_inputs, refused_by, accepts, is_refusal}
use Rattle.sizes.specs.declared.Refusal.{Refusal}
use Rattle.sizes.specs.declared.Sizes.{Sizes}
use Rattle.sessions.specs.Session.{same_sizes, pair_refusal, no_session, opened}

module _ (s₁ s₂ : List ℕ) where
  pub pair-first : ¬ (file_number s₁ ≡ 0) → pair_refusal s₁ s₂ ≡ refusal_of 1 s₁
  unfolding pair_refusal
  pair-first n = rw (ne_eqb (file_number s₁) 0 n)

  module _ (e₁ : file_number s₁ ≡ 0) where
    pub pair-second : ¬ (file_number s₂ ≡ 0) → pair_refusal s₁ s₂ ≡ refusal_of 2 s₂
    unfolding pair_refusal
    pair-second n = rw (eq-eqb (file_number s₁) 0 e₁, ne_eqb (file_number s₂) 0 n)

    module _ (e₂ : file_number s₂ ≡ 0) where
      pub pair_9 : same_sizes (sizes_of s₁) (sizes_of s₂) ≡ false → pair_refusal s₁ s₂ ≡ refused_by 9
      unfolding pair_refusal
      pair_9 e = rw (eq-eqb (file_number s₁) 0 e₁, eq-eqb (file_number s₂) 0 e₂, e)

      pub pair_0 : same_sizes (sizes_of s₁) (sizes_of s₂) ≡ true → pair_refusal s₁ s₂ ≡ refused_by 0
      unfolding pair_refusal
      pair_0 e = rw (eq-eqb (file_number s₁) 0 e₁, eq-eqb (file_number s₂) 0 e₂, e)

-- sizes with a word length for each input that a file may have and that pass the test are equal
pub same-equal : (z w : Sizes) → length z.widths ≡ max_inputs → length w.widths ≡ max_inputs → same_sizes z w ≡ true → z ≡ w
unfolding same_sizes
same-equal z w lz lw e =
    let p = (and-eq-true_iff _ _).0 e in
    let q = (and-eq-true_iff _ _).0 p.0 in
    let widths : z.widths ≡ w.widths =
    ext_get_or 0 z.widths w.widths (lz ∙ sym lw)
    (λ i h. eqb-true _ _ (every-at _ 0 max_inputs i p.1 (omega arith) (omega arith))) in
    λ i. record { m = eqb-true z.m w.m q.0 i; d = eqb-true z.d w.d q.1 i; widths = widths i }

-- sizes are the same as themselves
pub same_refl : (z : Sizes) → same_sizes z z ≡ true
unfolding same_sizes
same_refl z =
    simp (eq-eqb z.m z.m refl, eq-eqb z.d z.d refl)
    (every_of _ 0 max_inputs (λ i _ _. eq-eqb (get_or z.widths i 0) (get_or z.widths i 0) refl))

-- comparable files are accepted together
pub pair-taken : (s₁ s₂ : List ℕ) → Comparable s₁ s₂ → pair_refusal s₁ s₂ ≡ refused_by 0
pair-taken s₁ s₂ c =
    pair_0 s₁ s₂ (number_0 s₁ c.sound₁) (number_0 s₂ c.sound₂) (ap (same_sizes (sizes_of s₁)) (sym c.same) ∙ same_refl (sizes_of s₁))

-- a condition that would refuse doesn't hold where nothing refuses
pub cond_passed :
    (b : Bool) (r s : Refusal) → (b ≡ true → is_refusal r ≡ true) → is_refusal (cond b r s) ≡ false → (b ≡ false) × (is_refusal s ≡ false)
cond_passed true r s refuses e = absurd (let t = refuses refl in let q : ◌≡◌ {A = ℕ} 0 1 = cc in omega arith)
cond_passed false r s refuses e = (refl, e)

-- the refusal of a file refuses where its number isn't 0
file-refuses : (w : ℕ) (s : List ℕ) → not (eqb (file_number s) 0) ≡ true → is_refusal (refusal_of w s) ≡ true
file-refuses w s e = rw (refusal-number s w) e

-- the files of an accepted opening
pub pair-accepted : (s₁ s₂ : List ℕ) → (opened s₁ s₂).refusal.number ≡ 0 → is_refusal (pair_refusal s₁ s₂) ≡ false
unfolding opened
pair-accepted s₁ s₂ e = rw (eq-eqb (pair_refusal s₁ s₂).number 0 e)

pub comparable : (s₁ s₂ : List ℕ) → is_refusal (pair_refusal s₁ s₂) ≡ false → Comparable s₁ s₂
unfolding pair_refusal
comparable s₁ s₂ pair =
    let p₁ = cond_passed (not (eqb (file_number s₁) 0)) (refusal_of 1 s₁) _ (file-refuses 1 s₁) pair in
    let p₂ = cond_passed (not (eqb (file_number s₂) 0)) (refusal_of 2 s₂) _ (file-refuses 2 s₂) p₁.1 in
    let p₃ = cond_passed (not (same_sizes (sizes_of s₁) (sizes_of s₂))) (refused_by 9) _ (λ _. refl) p₂.1 in
    let a₁ = accepted s₁ (eqb-true _ _ (not-false _ p₁.0)) in
    let a₂ = accepted s₂ (eqb-true _ _ (not-false _ p₂.0)) in
    record {
      sound₁ = a₁;
      sound₂ = a₂;
      same = same-equal (sizes_of s₁) (sizes_of s₂) (length-widths s₁) (length-widths s₂) (not-false _ p₃.0);
    }

-- what opening shows where it gives a session, and where it refuses
module _ (s₁ s₂ : List ℕ) where
  pub opened-accepts : accepts (opened s₁ s₂).refusal ≡ true → (opened s₁ s₂).refusal ≡ refused_by 0
  unfolding opened
  opened-accepts e = pair-taken s₁ s₂ (comparable s₁ s₂ (ap not e))

  pub opened_refused : accepts (opened s₁ s₂).refusal ≡ false → (opened s₁ s₂).session ≡ no_session
  unfolding opened
  opened_refused e = rw e
