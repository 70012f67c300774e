-- The exact values of the steps of an accepted file, one by one: an entry of the list of values stays the same when the list grows, so a step's
-- value is given by those of its operands. Which steps do not depend on an input.
-- Assumes nothing.
use mathlib.Core.Path.{◌≡◌, refl, sym, ◌∙◌, ap, ap₂}
use mathlib.Core.List.{List, []}
use Prim.Native.Nat.{ℕ, zero, suc, ◌+◌, ◌<◌}
use native.Mathlib.Decide.{ℕ_discrete}
use native.Mathlib.Nat.{not-suc-le-zero}
use native.Mathlib.Omega.{arith}
use lib.IntN.{ℤ, pos, ◌+ℤ◌, ◌-ℤ◌, ◌*ℤ◌}
use lib.ListN.{get_or, get_or-append, get_or-map}
use lib.Seq.{get_or_at}
use Rattle.fields.specs.File.{step_count}
use Rattle.fields.specs.Steps.{step_at, steps_of}
use Rattle.fields.proofs.Steps.{steps-at}
use Rattle.datapath.specs.Steps.{step_value, values}
use Rattle.datapath.specs.declared.Step.{Step}
use Rattle.datapath.specs.declared.Step.TheVariants.{Input, Constant, Add, Subtract, Multiply}
use Rattle.datapath.proofs.Values.{length-values, values-step}
use Rattle.words.specs.Words.{plain}
use Rattle.dependence.specs.Dependence.{value_at, Fixed}

-- value i is the same in the list of all values and in that of the first i + 1
module _ (ts : List Step) (x : List ℤ) where
  value_stays : (n i : ℕ) → i < n → get_or (values ts x n) i (pos 0) ≡ get_or (values ts x (i + 1)) i (pos 0)
  unfolding values
  value_stays zero i h = absurd (not-suc-le-zero h)
  value_stays (suc n) i h =
      elim (ℕ_discrete i n) [
        | yes e ↦
            let here : suc n ≡ i + 1 = omega arith in
            ap (λ k. get_or (values ts x k) i (pos 0)) here
        | no ne ↦
            let l : i < n = omega arith in
            get_or-append (values ts x n) _ (pos 0) i (rw length-values l) ∙ value_stays n i l
      ]

module _ (s x : List ℕ) (k : ℕ) (h : k < step_count s) where
  -- the entry of the list of the values before step k is the step's value
  value_before : (i : ℕ) → i < k → get_or (values (steps_of s) (plain x) k) i (pos 0) ≡ value_at s x i
  unfolding value_at
  value_before i l = value_stays (steps_of s) (plain x) k i l ∙ sym (value_stays (steps_of s) (plain x) (step_count s) i (omega arith))

  value_of_step : value_at s x k ≡ step_value (plain x) (values (steps_of s) (plain x) k) (step_at s k)
  unfolding value_at
  value_of_step =
      value_stays (steps_of s) (plain x) (step_count s) k h
      ∙ ap (λ vs. get_or vs k (pos 0)) (values-step (steps_of s) (plain x) k)
      ∙ get_or_at (values (steps_of s) (plain x) k) _ [] (pos 0) k (length-values (steps_of s) (plain x) k)
      ∙ ap (step_value (plain x) (values (steps_of s) (plain x) k)) (steps-at s k h)

  value_of : (t : Step) → t ≡ step_at s k → value_at s x k ≡ step_value (plain x) (values (steps_of s) (plain x) k) t
  value_of t e = value_of_step ∙ ap (step_value (plain x) (values (steps_of s) (plain x) k)) (sym e)

  pub value-input : (i : ℕ) → Input i ≡ step_at s k → value_at s x k ≡ pos (get_or x i 0)
  unfolding step_value
  value-input i e = value_of (Input i) e ∙ get_or-map pos x i 0

  pub value-constant : (c : ℕ) → Constant c ≡ step_at s k → value_at s x k ≡ pos c
  unfolding step_value
  value-constant c e = value_of (Constant c) e

  -- a step with operands a and b before it, of which it is the result f
  module _ (a b : ℕ) (left : a < k) (right : b < k) where
    value-pair :
        (t : Step) (f : ℤ → ℤ → ℤ) → ((vs : List ℤ) → step_value (plain x) vs t ≡ f (get_or vs a (pos 0)) (get_or vs b (pos 0))) → t ≡ step_at s k →
        value_at s x k ≡ f (value_at s x a) (value_at s x b)
    value-pair t f reads e = value_of t e ∙ reads (values (steps_of s) (plain x) k) ∙ ap₂ f (value_before a left) (value_before b right)

    pub value-sum : Add a b ≡ step_at s k → value_at s x k ≡ value_at s x a +ℤ value_at s x b
    unfolding step_value
    value-sum e = value-pair (Add a b) ◌+ℤ◌ (λ vs. refl) e

    pub value-difference : Subtract a b ≡ step_at s k → value_at s x k ≡ value_at s x a -ℤ value_at s x b
    unfolding step_value
    value-difference e = value-pair (Subtract a b) ◌-ℤ◌ (λ vs. refl) e

    pub value-product : Multiply a b ≡ step_at s k → value_at s x k ≡ value_at s x a *ℤ value_at s x b
    unfolding step_value
    value-product e = value-pair (Multiply a b) ◌*ℤ◌ (λ vs. refl) e

-- a step that is another input, a constant, or has operands that do not depend on input j does not depend on it
module _ (s : List ℕ) (j k : ℕ) (h : k < step_count s) where
  pub fixed_input : (i : ℕ) → Input i ≡ step_at s k → ¬ (i ≡ j) → Fixed s j k
  fixed_input i e n x y b = value-input s x k h i e ∙ ap pos (b i n) ∙ sym (value-input s y k h i e)

  pub fixed_constant : (c : ℕ) → Constant c ≡ step_at s k → Fixed s j k
  fixed_constant c e x y b = value-constant s x k h c e ∙ sym (value-constant s y k h c e)

  pub fixed_pair :
      (f : ℤ → ℤ → ℤ) (l r : ℕ) → ((x : List ℕ) → value_at s x k ≡ f (value_at s x l) (value_at s x r)) → Fixed s j l → Fixed s j r → Fixed s j k
  fixed_pair f l r v p q x y b = v x ∙ ap₂ f (p x y b) (q x y b) ∙ sym (v y)
