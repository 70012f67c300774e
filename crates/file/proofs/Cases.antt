-- One law for each answer of a judging function: from the tests that led there, what the definition gives. Each by rewriting with the
-- tests. Assumes nothing.
use mathlib.Core.Bool.{true, false, not, cond}
use mathlib.Core.List.{List}
use mathlib.Core.Logic.{⊎_elim}
use mathlib.Core.Path.{◌≡◌, refl, sym, ap, ◌∙◌}
use Prim.Native.Nat.{ℕ, ◌+◌, ◌*◌, ◌%◌, ◌^◌, ◌≤◌, ◌<◌}
use native.Mathlib.Nat.{mod-lt, mod-eq_of_lt}
use native.Mathlib.Omega.{arith}
use lib.Dec.{ltb, eqb}
use lib.ListN.{length}
use lib.Pow.{pow_pos}
use borrow.Author.Tests.{lt-ltb, le-ltb, eq-eqb, ne_eqb, ltb-true, ltb-false, eqb-true, eqb-false}
use Rattle.std.specs.Prelude.{Some, None}
use Rattle.ranges.proofs.Search.{true_or_false}
use Rattle.sizes.specs.declared.Sizes.{Sizes}
use Rattle.sizes.specs.Sizes.{within, output_length, input_count, bad_output, bad_inputs, bad_widths}
use Rattle.fields.specs.File.{short_head, sizes_of, head_of, step_count, operation, argument}
use Rattle.fields.proofs.Heads.{head-short}
use Rattle.file.specs.Check.{fault, max_steps, too_short, short_of_head, bad_count, bad_length, bad_operation, operands_rule, argument_rule, bad_argument, step_fault, faulty_at, head_fault}

-- the number of a condition that holds, read back from its option
module _ (n : ℕ) where
  fault-zero : eqb n 0 ≡ true → fault n ≡ None
  fault-zero t = rw t

  fault_not : eqb n 0 ≡ false → fault n ≡ Some n
  fault_not f = rw f

  pub fault-some : (m : ℕ) → Some m ≡ fault n → (m ≡ n) × (n ≡ 0 → ⊥)
  fault-some m e =
      ⊎_elim
      (λ (t : eqb n 0 ≡ true). cc (fault-zero t))
      (λ (f : eqb n 0 ≡ false). (cc (fault_not f), eqb-false n 0 f))
      (true_or_false (eqb n 0))

  pub fault-none : None ≡ fault n → n ≡ 0
  fault-none e =
      ⊎_elim
      (λ (t : eqb n 0 ≡ true). eqb-true n 0 t)
      (λ (f : eqb n 0 ≡ false). cc (fault_not f))
      (true_or_false (eqb n 0))

-- the definition with the tests that it names opened
pub head_opened :
    (s : List ℕ) →
    head_fault s ≡
    cond (ltb (length s) short_head) 1
    (cond (not (output_length (sizes_of s).m)) 2
    (cond (not (input_count (sizes_of s).d)) 3
    (cond (ltb (length s) (head_of s)) 1
    (cond (not (within 1 max_steps (step_count s))) 4
    (cond (bad_widths (sizes_of s)) 5
    (cond (not (eqb (length s) (head_of s + 9 * step_count s))) 6 0))))))
unfolding head_fault too_short short_of_head bad_output bad_inputs bad_count bad_length
head_opened s = refl

module _ (s : List ℕ) where
  pub head_1 : length s < short_head → 1 ≡ head_fault s
  unfolding head_fault too_short
  head_1 l = simp (lt-ltb _ _ l)

  module _ (long : short_head ≤ length s) where
    pub head_2 : bad_output (sizes_of s) ≡ true → 2 ≡ head_fault s
    unfolding head_fault too_short
    head_2 e = simp (le-ltb _ _ long, e)

    module _ (output : bad_output (sizes_of s) ≡ false) where
      pub head_3 : bad_inputs (sizes_of s) ≡ true → 3 ≡ head_fault s
      unfolding head_fault too_short
      head_3 e = simp (le-ltb _ _ long, output, e)

      pub own-head_1 : bad_inputs (sizes_of s) ≡ false → length s < head_of s → 1 ≡ head_fault s
      unfolding head_fault too_short short_of_head
      own-head_1 inputs l = simp (le-ltb _ _ long, output, inputs, lt-ltb _ _ l)

  module _ (whole : head_of s ≤ length s) (output : bad_output (sizes_of s) ≡ false) (inputs : bad_inputs (sizes_of s) ≡ false) where
    pub head_4 : within 1 max_steps (step_count s) ≡ false → 4 ≡ head_fault s
    unfolding head_fault too_short short_of_head bad_count
    head_4 e = simp (le-ltb _ _ (head-short s whole), output, inputs, le-ltb _ _ whole, e)

    module _ (count : within 1 max_steps (step_count s) ≡ true) where
      pub head_5 : bad_widths (sizes_of s) ≡ true → 5 ≡ head_fault s
      unfolding head_fault too_short short_of_head bad_count
      head_5 e = simp (le-ltb _ _ (head-short s whole), output, inputs, le-ltb _ _ whole, count, e)

      module _ (widths : bad_widths (sizes_of s) ≡ false) where
        pub head_6 : (length s ≡ head_of s + 9 * step_count s → ⊥) → 6 ≡ head_fault s
        unfolding head_fault too_short short_of_head bad_count bad_length
        head_6 n = simp (le-ltb _ _ (head-short s whole), output, inputs, le-ltb _ _ whole, count, widths, ne_eqb _ _ n)

        pub head_0 : length s ≡ head_of s + 9 * step_count s → 0 ≡ head_fault s
        unfolding head_fault too_short short_of_head bad_count bad_length
        head_0 e = simp (le-ltb _ _ (head-short s whole), output, inputs, le-ltb _ _ whole, count, widths, eq-eqb _ _ e)

module _ (s : List ℕ) (k : ℕ) where
  pub step_7 : within 1 5 (operation s k) ≡ false → 7 ≡ step_fault s k
  unfolding step_fault bad_operation
  step_7 e = simp e

  module _ (sound : within 1 5 (operation s k) ≡ true) where
    pub step_8 : argument_rule (sizes_of s) k (operation s k) (argument s k) ≡ false → 8 ≡ step_fault s k
    unfolding step_fault bad_operation bad_argument
    step_8 e = simp (sound, e)

    pub step_0 : argument_rule (sizes_of s) k (operation s k) (argument s k) ≡ true → 0 ≡ step_fault s k
    unfolding step_fault bad_operation bad_argument
    step_0 e = simp (sound, e)

  pub faulty : (step_fault s k ≡ 0 → ⊥) → faulty_at s k ≡ true
  unfolding faulty_at
  faulty n = ap not (ne_eqb _ _ n)

  pub faultless : step_fault s k ≡ 0 → faulty_at s k ≡ false
  unfolding faulty_at
  faultless e = ap not (eq-eqb _ _ e)

-- the rule of an argument, by its operation
module _ (z : Sizes) (k o a : ℕ) where
  pub rule-input : o ≡ 1 → argument_rule z k o a ≡ ltb a z.d
  unfolding argument_rule
  rule-input e = simp e

  pub rule-constant : o ≡ 2 → argument_rule z k o a ≡ ltb a (2 ^ z.m)
  unfolding argument_rule
  rule-constant e = simp e

  pub rule-operands : (o ≡ 1 → ⊥) → (o ≡ 2 → ⊥) → argument_rule z k o a ≡ operands_rule k a
  unfolding argument_rule
  rule-operands n1 n2 = simp (ne_eqb o 1 n1, ne_eqb o 2 n2)

-- a number is its own remainder just where it is below the modulus
pub own-remainder : (a M : ℕ) → 0 < M → eqb (a % M) a ≡ ltb a M
own-remainder a M pos = ⊎_elim below above (true_or_false (ltb a M))
  where
    below : ltb a M ≡ true → eqb (a % M) a ≡ ltb a M
    below e = eq-eqb _ _ (mod-eq_of_lt (ltb-true a M e)) ∙ sym e

    above : ltb a M ≡ false → eqb (a % M) a ≡ ltb a M
    above e = ne_eqb _ _ (λ (q : a % M ≡ a). omega (arith, mod-lt a pos, ltb-false a M e)) ∙ sym e

-- and so it is kept by a cut to m bits just where it has no more
pub kept_by_cut : (a m : ℕ) → eqb (a % 2 ^ m) a ≡ ltb a (2 ^ m)
kept_by_cut a m = own-remainder a (2 ^ m) (pow_pos m)
