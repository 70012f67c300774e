-- The number of a file and the refusal that shows it: what each of them is, by the head's fault and the first faulty step; and back, what
-- a number 0 says of both. By the tests of the definitions, and by what holds at the first faulty step. Assumes nothing.
use mathlib.Core.Bool.{Bool, true, false, cond}
use mathlib.Core.List.{List, []}
use mathlib.Core.Logic.{⊎_elim}
use mathlib.Core.Path.{◌≡◌, refl, sym, ap, ◌∙◌}
use Prim.Native.Nat.{ℕ, suc, ◌+◌, ◌*◌, ◌≤◌, ◌<◌}
use native.Mathlib.Omega.{arith}
use lib.Dec.{ltb, eqb, lit≤}
use lib.ListN.{length}
use borrow.Author.Tests.{lt-ltb, le-ltb, lt-leb, le-leb, eq-eqb, ne_eqb, ltb-true, ltb-false, eqb-true, eqb-false, not-true, not-false}
use Rattle.ranges.proofs.Search.{true_or_false, cond_each, first_found}
use Rattle.sizes.specs.Sizes.{within, bad_output, bad_inputs, bad_widths, accepts, accepted}
use Rattle.fields.specs.File.{sizes_of, head_of, step_count, operations_of}
use Rattle.file.specs.Check.{max_steps, too_short, short_of_head, bad_count, bad_length, bad_operation, bad_argument, step_fault, faulty_at, faulty_step, head_fault, file_number, shown_step, refusal_of, stretch_of}

pub cond_zero : (b : Bool) (x y : ℕ) → cond b (suc x) y ≡ 0 → (b ≡ false) × (y ≡ 0)
cond_zero true x y e = absurd (omega arith)
cond_zero false x y e = (refl, e)

low : (a b : Bool) (x y : ℕ) → 7 ≤ x → 7 ≤ y → (cond a x (cond b y 0) ≡ 0 → ⊥) → 7 ≤ cond a x (cond b y 0)
low true b x y l h n = l
low false true x y l h n = h
low false false x y l h n = absurd (n refl)

-- a number is 0 or is not
zero_or_not : (n : ℕ) {C : Type 0} → (n ≡ 0 → C) → ((n ≡ 0 → ⊥) → C) → C
zero_or_not n yes-zero no_zero =
    ⊎_elim
    (λ (e : eqb n 0 ≡ true). yes-zero (eqb-true n 0 e))
    (λ (e : eqb n 0 ≡ false). no_zero (eqb-false n 0 e))
    (true_or_false (eqb n 0))

module _ (s : List ℕ) where
  -- conditions 1 to 6 do not hold
  pub record Head : Type 0 where
    pub long : head_of s ≤ length s
    pub output : bad_output (sizes_of s) ≡ false
    pub inputs : bad_inputs (sizes_of s) ≡ false
    pub count : within 1 max_steps (step_count s) ≡ true
    pub widths : bad_widths (sizes_of s) ≡ false
    pub size : length s ≡ head_of s + 9 * step_count s

  pub head_passed : head_fault s ≡ 0 → Head
  unfolding head_fault short_of_head bad_count bad_length
  head_passed e =
      let p1 = cond_zero (too_short s) 0 _ e in
      let p2 = cond_zero (bad_output (sizes_of s)) 1 _ p1.1 in
      let p3 = cond_zero (bad_inputs (sizes_of s)) 2 _ p2.1 in
      let p = cond_zero (short_of_head s) 0 _ p3.1 in
      let p4 = cond_zero (bad_count s) 3 _ p.1 in
      let p5 = cond_zero (bad_widths (sizes_of s)) 4 _ p4.1 in
      let p6 = cond_zero (bad_length s) 5 _ p5.1 in
      record {
        long = ltb-false _ _ p.0;
        output = p2.0;
        inputs = p3.0;
        count = not-false _ p4.0;
        widths = p5.0;
        size = eqb-true _ _ (not-false _ p6.0);
      }

  abbrev few : ℕ → Type 0
  few n = n ≤ 6

  head-most : few (head_fault s)
  unfolding head_fault
  head-most =
      cond_each few (too_short s) (lit≤ tt)
      (cond_each few (bad_output (sizes_of s)) (lit≤ tt)
      (cond_each few (bad_inputs (sizes_of s)) (lit≤ tt)
      (cond_each few (short_of_head s) (lit≤ tt)
      (cond_each few (bad_count s) (lit≤ tt)
      (cond_each few (bad_widths (sizes_of s)) (lit≤ tt)
      (cond_each few (bad_length s) (lit≤ tt) (lit≤ tt)))))))

  step-least : (k : ℕ) → (step_fault s k ≡ 0 → ⊥) → 7 ≤ step_fault s k
  unfolding step_fault
  step-least k = low (bad_operation s k) (bad_argument s k) 7 8 (lit≤ tt) (lit≤ tt)

  -- at the first faulty step, 7 or 8
  found-least : faulty_step s < step_count s → 7 ≤ step_fault s (faulty_step s)
  unfolding faulty_step faulty_at
  found-least l = step-least _ (eqb-false _ _ (not-true _ (first_found (faulty_at s) 0 (step_count s) (omega arith))))

  pub number-head : (head_fault s ≡ 0 → ⊥) → file_number s ≡ head_fault s
  unfolding file_number
  number-head n = simp (ne_eqb _ _ n)

  module _ (head : head_fault s ≡ 0) where
    number-faulty : faulty_step s < step_count s → file_number s ≡ step_fault s (faulty_step s)
    unfolding file_number
    number-faulty l = simp (eq-eqb _ _ head, lt-ltb _ _ l)

    pub number-sound : step_count s ≤ faulty_step s → file_number s ≡ 0
    unfolding file_number
    number-sound l = simp (eq-eqb _ _ head, le-ltb _ _ l)

  shown-sound : file_number s ≤ 6 → shown_step s ≡ 0
  unfolding shown_step
  shown-sound l = simp (lt-leb 7 (file_number s) (omega arith))

  shown-faulty : 7 ≤ file_number s → shown_step s ≡ faulty_step s
  unfolding shown_step
  shown-faulty l = simp (le-leb 7 (file_number s) l)

  refused :
      (w x k : ℕ) → x ≡ file_number s → k ≡ shown_step s → (file_number s ≡ 0 → ⊥) → record { number = x; file = w; step = k } ≡ refusal_of w s
  unfolding refusal_of
  refused w x k ex ek n = simp (ex, ek, ne_eqb _ _ n)

  pub refused-head : (w : ℕ) {x : ℕ} → x ≡ head_fault s → (x ≡ 0 → ⊥) → record { number = x; file = w; step = 0 } ≡ refusal_of w s
  refused-head w {x} e n =
      let whole = number-head (λ (z : head_fault s ≡ 0). n (e ∙ z)) in
      refused w x 0 (e ∙ sym whole) (sym (shown-sound (omega (arith, head-most)))) (λ (z : file_number s ≡ 0). n (e ∙ sym whole ∙ z))

  module _ (head : head_fault s ≡ 0) where
    pub refused-faulty :
        (w : ℕ) {k x : ℕ} → k ≡ faulty_step s → x ≡ step_fault s k → k < step_count s → record { number = x; file = w; step = k } ≡ refusal_of w s
    refused-faulty w {k} {x} ek ex l =
        let found : faulty_step s < step_count s = omega arith in
        let whole = number-faulty head found in
        let least = found-least found in
        refused w x k (ex ∙ ap (step_fault s) ek ∙ sym whole) (ek ∙ sym (shown-faulty (omega arith))) (λ (z : file_number s ≡ 0). omega arith)

    pub refused-sound : (w : ℕ) → step_count s ≤ faulty_step s → record { number = 0; file = 0; step = 0 } ≡ refusal_of w s
    unfolding refusal_of
    refused-sound w l = simp (eq-eqb _ _ (number-sound head l))

  -- the number of the refusal is the file's
  pub refusal-number : (w : ℕ) → (refusal_of w s).number ≡ file_number s
  unfolding refusal_of
  refusal-number w =
      zero_or_not (file_number s)
      (λ (e : file_number s ≡ 0). simp (eq-eqb _ _ e) (sym e))
      (λ (n : file_number s ≡ 0 → ⊥). simp (ne_eqb _ _ n))

  -- an accepted file shows nothing
  pub refusal-accepts : (w : ℕ) → accepts (refusal_of w s) ≡ true → refusal_of w s ≡ accepted
  unfolding refusal_of
  refusal-accepts w e = rw (sym (refusal-number w) ∙ eqb-true _ 0 e)

  pub stretch_accepted : file_number s ≡ 0 → stretch_of s ≡ operations_of s
  unfolding stretch_of
  stretch_accepted e = simp (eq-eqb _ _ e)

  pub stretch_refused : (file_number s ≡ 0 → ⊥) → stretch_of s ≡ []
  unfolding stretch_of
  stretch_refused n = simp (ne_eqb _ _ n)

  -- number 0: the head has no fault, and no step is faulty
  pub number-zero : file_number s ≡ 0 → (head_fault s ≡ 0) × (step_count s ≤ faulty_step s)
  number-zero e = zero_or_not (head_fault s) sound (λ (n : head_fault s ≡ 0 → ⊥). absurd (n (sym (number-head n) ∙ e)))
    where
      sound : head_fault s ≡ 0 → (head_fault s ≡ 0) × (step_count s ≤ faulty_step s)
      sound head =
          ⊎_elim
          (λ (t : ltb (faulty_step s) (step_count s) ≡ true).
          let l : faulty_step s < step_count s = ltb-true _ _ t in
          absurd (omega (arith, found-least l, number-faulty head l)))
          (λ (t : ltb (faulty_step s) (step_count s) ≡ false). (head, ltb-false _ _ t))
          (true_or_false (ltb (faulty_step s) (step_count s)))
