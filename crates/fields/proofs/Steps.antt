-- The steps of a file: how many there are, which one stands at k, and what it is by its operation byte. The first two by induction on
-- the count. Assumes nothing.
use mathlib.Core.List.{List}
use mathlib.Core.Path.{◌≡◌, refl, sym, ap, ◌∙◌}
use Prim.Native.Nat.{ℕ, zero, suc, ◌+◌, ◌<◌}
use native.Mathlib.Nat.{add-zero, zero-add, le_of_suc-le-suc, not-suc-le-zero}
use native.Mathlib.Omega.{arith}
use borrow.Author.Tests.{ne_eqb}
use lib.ListN.{length, get_or}
use Rattle.datapath.specs.declared.Step.TheVariants.{Input, Constant, Add, Subtract, Multiply}
use Rattle.fields.specs.File.{step_count, operation, argument, left_operand, right_operand}
use Rattle.fields.specs.Steps.{decoded, step_at, steps_from, steps_of}

module _ (s : List ℕ) where
  length_from : (j n : ℕ) → length (steps_from s j n) ≡ n
  unfolding steps_from
  length_from j zero = refl
  length_from j (suc n) = ap suc (length_from (j + 1) n)

  from_at : (j n k : ℕ) → k < n → get_or (steps_from s j n) k (Constant 0) ≡ step_at s (j + k)
  unfolding steps_from
  from_at j zero k l = absurd (not-suc-le-zero l)
  from_at j (suc n) zero l = ap (step_at s) (sym (add-zero j))
  from_at j (suc n) (suc k) l = from_at (j + 1) n k (le_of_suc-le-suc l) ∙ ap (step_at s) (omega arith)

  pub length-steps : length (steps_of s) ≡ step_count s
  unfolding steps_of
  length-steps = length_from 0 (step_count s)

  pub steps-at : (k : ℕ) → k < step_count s → get_or (steps_of s) k (Constant 0) ≡ step_at s k
  unfolding steps_of
  steps-at k l = from_at 0 (step_count s) k l ∙ ap (step_at s) (zero-add k)

  module _ (k : ℕ) where
    pub step-input : operation s k ≡ 1 → step_at s k ≡ Input (argument s k)
    unfolding step_at decoded
    step-input e = simp e

    pub step-constant : operation s k ≡ 2 → step_at s k ≡ Constant (argument s k)
    unfolding step_at decoded
    step-constant e = simp e

    pub step-add : operation s k ≡ 3 → step_at s k ≡ Add (left_operand (argument s k)) (right_operand (argument s k))
    unfolding step_at decoded
    step-add e = simp e

    pub step_subtract : operation s k ≡ 4 → step_at s k ≡ Subtract (left_operand (argument s k)) (right_operand (argument s k))
    unfolding step_at decoded
    step_subtract e = simp e

    pub step-otherwise :
        ¬ (operation s k ≡ 1) → ¬ (operation s k ≡ 2) → ¬ (operation s k ≡ 3) → ¬ (operation s k ≡ 4) →
        step_at s k ≡ Multiply (left_operand (argument s k)) (right_operand (argument s k))
    unfolding step_at decoded
    step-otherwise n₁ n₂ n₃ n₄ =
        rw (ne_eqb (operation s k) 1 n₁, ne_eqb (operation s k) 2 n₂, ne_eqb (operation s k) 3 n₃, ne_eqb (operation s k) 4 n₄)
