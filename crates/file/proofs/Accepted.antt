-- A file whose number is 0 keeps all of document 01's rules. The head by the tests that passed; each step because none before N is
-- faulty, so that its operation byte and its argument pass their tests. Assumes nothing.
use mathlib.Core.Bool.{false}
use mathlib.Core.List.{List}
use mathlib.Core.Path.{◌≡◌, sym, ◌∙◌, subst}
use Prim.Native.Nat.{ℕ, ◌≤◌, ◌<◌}
use native.Mathlib.Decide.{ℕ_discrete}
use native.Mathlib.Omega.{arith}
use borrow.Author.Tests.{eqb-true, not-false}
use Rattle.ranges.proofs.Search.{first-before}
use Rattle.sizes.proofs.Ranges.{within-range, output-range, inputs-range, width_used, width-unused}
use Rattle.datapath.specs.declared.Step.{Step}
use Rattle.fields.specs.Steps.{step_at}
use Rattle.fields.proofs.Steps.{step-input, step-constant, step-add, step_subtract, step-otherwise}
use Rattle.file.specs.Accepted.{OperationRuled, ArgumentRuled, Accepted, Counted, StepRule}
use Rattle.file.specs.Check.{max_steps, bad_operation, bad_argument, step_fault, faulty_at, faulty_step, file_number}
use Rattle.fields.specs.File.{sizes_of, step_count, operation, argument, left_operand, right_operand}
use Rattle.file.proofs.Steps.{operation-kept, argument-kept}
use Rattle.file.proofs.Number.{cond_zero, head_passed, number-zero}

module _ (s : List ℕ) (e : file_number s ≡ 0) where
  -- the tests that step k passed
  step-passed : (k : ℕ) → k < step_count s → (bad_operation s k ≡ false) × (bad_argument s k ≡ false)
  unfolding faulty_step faulty_at step_fault
  step-passed k l =
      let none = first-before (faulty_at s) 0 (step_count s) k (omega arith) (omega (arith, (number-zero s e).1)) in
      let p = cond_zero (bad_operation s k) 6 _ (eqb-true _ _ (not-false _ none)) in
      (p.0, (cond_zero (bad_argument s k) 7 _ p.1).0)

  operations : (k : ℕ) → k < step_count s → OperationRuled s k
  unfolding bad_operation
  operations k l = operation-kept s k (not-false _ (step-passed k l).0)

  arguments : (k : ℕ) → k < step_count s → ArgumentRuled s k
  unfolding bad_argument
  arguments k l = argument-kept s k (not-false _ (step-passed k l).1)

  pub accepted : Accepted s
  accepted =
      let head = head_passed s (number-zero s e).0 in
      let output = output-range (sizes_of s) head.output in
      let inputs = inputs-range (sizes_of s) head.inputs in
      let count = within-range 1 max_steps (step_count s) head.count in
      record {
        long = head.long;
        size = head.size;
        output_low = output.0;
        output_high = output.1;
        inputs_low = inputs.0;
        inputs_high = inputs.1;
        count_low = count.0;
        count_high = count.1;
        width_low = λ i l. (width_used (sizes_of s) head.widths i l (omega arith)).0;
        width_high = λ i l. (width_used (sizes_of s) head.widths i l (omega arith)).1;
        width_unused = width-unused (sizes_of s) head.widths;
        operations = operations;
        arguments = arguments;
      }

-- every step of an accepted file keeps its rule
step-rule : (s : List ℕ) → Accepted s → (k : ℕ) → k < step_count s → StepRule (sizes_of s) k (step_at s k)
step-rule s a k l =
    elim (ℕ_discrete (operation s k) 1) [
      | yes o ↦ subst (StepRule (sizes_of s) k) (sym (step-input s k o)) ((a.arguments k l).input o)
      | no n₁ ↦ elim (ℕ_discrete (operation s k) 2) [
        | yes o ↦ subst (StepRule (sizes_of s) k) (sym (step-constant s k o)) ((a.arguments k l).constant o)
        | no n₂ ↦
            let h : 3 ≤ operation s k = omega (arith, a.operations k l, n₁, n₂) in
            let before : (left_operand (argument s k) < k) × (right_operand (argument s k) < k) = ((a.arguments k l).left h, (a.arguments k l).right h) in
            elim (ℕ_discrete (operation s k) 3) [
              | yes o ↦ subst (StepRule (sizes_of s) k) (sym (step-add s k o)) before
              | no n₃ ↦ elim (ℕ_discrete (operation s k) 4) [
                | yes o ↦ subst (StepRule (sizes_of s) k) (sym (step_subtract s k o)) before
                | no n₄ ↦ subst (StepRule (sizes_of s) k) (sym (step-otherwise s k n₁ n₂ n₃ n₄)) before
              ]
            ]
      ]
    ]

-- step k is what is read of it, u, and keeps its rule
pub record Is (s : List ℕ) (k : ℕ) (u : Step) : Type 0 where
  pub inside : k < step_count s
  pub step : u ≡ step_at s k
  pub rule : StepRule (sizes_of s) k u

pub is : (s : List ℕ) (n k : ℕ) → Counted s n → k < n → (t u : Step) → t ≡ step_at s k → t ≡ u → Is s k u
is s n k p h t u e q =
    let inside : k < step_count s = omega (arith, p.count) in
    record {
      inside = inside;
      step = sym q ∙ e;
      rule = subst (StepRule (sizes_of s) k) (sym e ∙ q) (step-rule s p.sound k inside);
    }
