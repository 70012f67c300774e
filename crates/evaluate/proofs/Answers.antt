-- The cases of what evaluating answers: each refusal under the tests that led to it, and the scratch slice afterwards.
use Rattle.std.proofs.Common.{◌≡◌, ℕ, ◌<◌, ◌≤◌, true, false, List, ◌++◌, length, drop, replicate, sym, ap, ◌∙◌, ⊎_elim, arith, le-ltb, lt-ltb, eq-eqb, ne_eqb, eqb-true}
use mathlib.Core.Bool.{and-eq-true_iff}
use Rattle.std.specs.Prelude.{Ok, Err}
use native.Mathlib.Decide.{dec_lt, ℕ_discrete}
use borrow.Author.Tests.{not-false}
use Rattle.file.specs.Check.{file_number, refusal_of}
use Rattle.fields.specs.File.{sizes_of, step_count}
use Rattle.file.proofs.Number.{refusal-number}
use Rattle.sizes.specs.Answered.{answered}
use Rattle.sizes.specs.Sizes.{refused_by, accepted, accepts}
use Rattle.sizes.proofs.Answered.{ok-accepts, ok-value, err-refuses, err-refusal}
use Rattle.ranges.proofs.Search.{true_or_false}
use Rattle.sizes.specs.declared.Refusal.{Refusal}
use Rattle.sizes.specs.declared.Sizes.{Sizes}
use Rattle.evaluate.specs.Evaluate.{output_of, vector_of, bad_vector, refusal_at, evaluated_at, evaluated_scratch}

module _ (s x : List ℕ) (len : ℕ) where
  pub at-file : ¬ (file_number s ≡ 0) → refusal_at s x len ≡ refusal_of 1 s
  unfolding refusal_at
  at-file n = rw (ne_eqb (file_number s) 0 n)

  module _ (e : file_number s ≡ 0) where
    pub at_12 : len < step_count s → refusal_at s x len ≡ refused_by 12
    unfolding refusal_at
    at_12 l = rw (eq-eqb (file_number s) 0 e, lt-ltb len (step_count s) l)

    pub at_14 : step_count s ≤ len → bad_vector (sizes_of s) x ≡ true → refusal_at s x len ≡ refused_by 14
    unfolding refusal_at
    at_14 l b = rw (eq-eqb (file_number s) 0 e, le-ltb len (step_count s) l, b)

    pub at_0 : step_count s ≤ len → bad_vector (sizes_of s) x ≡ false → refusal_at s x len ≡ accepted
    unfolding refusal_at
    at_0 l b = rw (eq-eqb (file_number s) 0 e, le-ltb len (step_count s) l, b)

  -- what holds of an accepted call
  pub record Passed : Type 0 where
    pub sound : file_number s ≡ 0
    pub room : step_count s ≤ len
    pub fits : bad_vector (sizes_of s) x ≡ false

  pub passed : (refusal_at s x len).number ≡ 0 → Passed
  passed e =
      elim (ℕ_discrete (file_number s) 0) [
        | yes f ↦ elim (dec_lt len (step_count s)) [
          | yes l ↦ absurd (omega (arith, e, ap number (at_12 f l)))
          | no g ↦ ⊎_elim
              (λ (b : bad_vector (sizes_of s) x ≡ true). absurd (omega (arith, e, ap number (at_14 f (omega arith) b))))
              (λ (b : bad_vector (sizes_of s) x ≡ false). record { sound = f; room = omega arith; fits = b })
              (true_or_false (bad_vector (sizes_of s) x))
        ]
        | no n ↦ absurd (n (sym (refusal-number s 1) ∙ sym (ap number (at-file n)) ∙ e))
      ]
    where
      number : Refusal → ℕ
      number r = r.number

  -- an accepted call shows nothing
  pub refusal-accepts : accepts (refusal_at s x len) ≡ true → refusal_at s x len ≡ accepted
  refusal-accepts e = let p = passed (eqb-true _ 0 e) in at_0 p.sound p.room p.fits

-- a vector that fits has a value for each input
pub vector-long : (z : Sizes) (x : List ℕ) → bad_vector z x ≡ false → length x ≡ z.d
unfolding bad_vector
vector-long z x e = eqb-true (length x) z.d ((and-eq-true_iff _ _).0 (not-false _ e)).0

-- the scratch slice afterwards, and the answer of an accepted call
module _ (s x scratch : List ℕ) where
  pub scratch-refused : ¬ ((refusal_at s x (length scratch)).number ≡ 0) → scratch ≡ evaluated_scratch s x scratch
  unfolding evaluated_scratch
  scratch-refused n = rw (ne_eqb (refusal_at s x (length scratch)).number 0 n)

  pub answer-accepted :
      (refusal_at s x (length scratch)).number ≡ 0 →
      (record { refusal = refusal_at s x (length scratch); output = output_of s (vector_of (sizes_of s) x) } ≡ evaluated_at s x (length scratch)) ×
      (replicate (step_count s) 0 ++ drop (step_count s) scratch ≡ evaluated_scratch s x scratch)
  unfolding evaluated_at evaluated_scratch
  answer-accepted e = (rw (eq-eqb (refusal_at s x (length scratch)).number 0 e), rw (eq-eqb (refusal_at s x (length scratch)).number 0 e))

-- what is told of a call, by its answer
module _ (s x : List ℕ) (len : ℕ) where
  abbrev output_told : ℕ
  output_told = output_of s (vector_of (sizes_of s) x)

  pub told-ok : (y : ℕ) → Ok y ≡ answered (refusal_at s x len) output_told → evaluated_at s x len ≡ record { refusal = accepted; output = y }
  unfolding evaluated_at
  told-ok y e =
      let r = refusal_at s x len in
      let a : accepts r ≡ true = ok-accepts r output_told y e in
      rw (a, refusal-accepts s x len a, ok-value r output_told y e)

  pub told-err : (q : Refusal) → Err q ≡ answered (refusal_at s x len) output_told → evaluated_at s x len ≡ record { refusal = q; output = 0 }
  unfolding evaluated_at
  told-err q e =
      let r = refusal_at s x len in
      rw (err-refuses r output_told q e, err-refusal r output_told q e)
