-- The rules of one step and its tests: each test passes exactly where its rule holds. By the operation. Assumes nothing.
use mathlib.Core.Bool.{true, false, ◌&&◌, and-eq-true_iff}
use mathlib.Core.List.{List}
use mathlib.Core.Path.{◌≡◌, sym, ◌∙◌}
use Prim.Native.Nat.{ℕ, ◌^◌, ◌≤◌, ◌<◌}
use native.Mathlib.Decide.{ℕ_discrete}
use native.Mathlib.Nat.{div-eq_of_lt}
use native.Mathlib.Omega.{arith}
use lib.Dec.{ltb, eqb}
use borrow.Author.Tests.{lt-ltb, ltb-true, eq-eqb, eqb-true}
use Rattle.fields.specs.File.{sizes_of, operation, argument, left_operand, right_operand}
use Rattle.sizes.specs.Sizes.{within}
use Rattle.sizes.proofs.Ranges.{within-range}
use Rattle.sizes.proofs.Ruled.{range-within}
use Rattle.file.specs.Accepted.{OperationRuled, ArgumentRuled}
use Rattle.file.specs.Check.{upper_half, operands_rule, argument_rule, faulty_at}
use Rattle.file.proofs.Cases.{step_0, faultless, rule-input, rule-constant, rule-operands}

-- both operands of a kept rule, and the upper half, which is zero: the argument is below 2^32
operands-kept : (k a : ℕ) → operands_rule k a ≡ true → (left_operand a < k) × (right_operand a < k) × (a < 2 ^ 32)
unfolding operands_rule
operands-kept k a e =
    let p = (and-eq-true_iff (ltb (left_operand a) k && ltb (right_operand a) k) (eqb (upper_half a) 0)).0 e in
    let q = (and-eq-true_iff (ltb (left_operand a) k) (ltb (right_operand a) k)).0 p.0 in
    let upper : upper_half a ≡ 0 = eqb-true _ _ p.1 in
    (ltb-true _ _ q.0, ltb-true _ _ q.1, omega arith)

operands_pass : (k a : ℕ) → left_operand a < k → right_operand a < k → a < 2 ^ 32 → operands_rule k a ≡ true
unfolding operands_rule
operands_pass k a l r u = rw (lt-ltb (left_operand a) k l, lt-ltb (right_operand a) k r) (eq-eqb (upper_half a) 0 (div-eq_of_lt u))

module _ (s : List ℕ) (k : ℕ) where
  pub operation-kept : within 1 5 (operation s k) ≡ true → OperationRuled s k
  operation-kept e = within-range 1 5 (operation s k) e

  pub operation-passes : OperationRuled s k → within 1 5 (operation s k) ≡ true
  operation-passes o = range-within 1 5 (operation s k) o.0 o.1

  pub argument-kept : argument_rule (sizes_of s) k (operation s k) (argument s k) ≡ true → ArgumentRuled s k
  argument-kept e =
      record {
        input = λ o. ltb-true _ _ (sym (rule-input (sizes_of s) k _ _ o) ∙ e);
        constant = λ o. ltb-true _ _ (sym (rule-constant (sizes_of s) k _ _ o) ∙ e);
        left = λ h. (operands h).0;
        right = λ h. (operands h).1;
        upper = λ h. (operands h).2;
      }
    where
      operands : 3 ≤ operation s k → (left_operand (argument s k) < k) × (right_operand (argument s k) < k) × (argument s k < 2 ^ 32)
      operands h =
          operands-kept k (argument s k)
          (sym (rule-operands (sizes_of s) k _ _ (λ (q : operation s k ≡ 1). omega arith) (λ (q : operation s k ≡ 2). omega arith)) ∙ e)

  module _ (o : OperationRuled s k) (r : ArgumentRuled s k) where
    pub argument_passes : argument_rule (sizes_of s) k (operation s k) (argument s k) ≡ true
    argument_passes =
        elim (ℕ_discrete (operation s k) 1) [
          | yes e ↦ rule-input (sizes_of s) k _ _ e ∙ lt-ltb _ _ (r.input e)
          | no n ↦ elim (ℕ_discrete (operation s k) 2) [
            | yes e ↦ rule-constant (sizes_of s) k _ _ e ∙ lt-ltb _ _ (r.constant e)
            | no m ↦ let h : 3 ≤ operation s k = omega (arith, o, n, m) in
                rule-operands (sizes_of s) k _ _ n m ∙ operands_pass k (argument s k) (r.left h) (r.right h) (r.upper h)
          ]
        ]

    pub step-passes : faulty_at s k ≡ false
    step-passes = faultless s k (sym (step_0 s k (operation-passes o) argument_passes))
