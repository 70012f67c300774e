-- The list of the first k values: its length, one value more, and that an output hangs on no more of a vector than its entries modulo 2^m.
use mathlib.Core.Path.{◌≡◌, refl, sym, ◌∙◌, ap₂}
use mathlib.Core.List.{List, [], ◌∷◌, ◌++◌}
use Prim.Native.Nat.{ℕ, zero, suc, ◌+◌, ◌*◌, ◌-◌, ◌%◌, ◌^◌}
use native.Mathlib.Numerals.{add-one}
use native.Mathlib.Omega.{arith}
use lib.IntN.{ℤ, pos}
use lib.ListN.{length, get_or, length-append}
use lib.Pow.{pow_pos}
use Rattle.integers.specs.Modulo.{remainder}
use Rattle.integers.proofs.Remainder.{remainder-add, remainder-sub, remainder-mul}
use Rattle.datapath.specs.Steps.{step_value, values, exact, output}
use Rattle.datapath.specs.declared.Step.{Step}
use Rattle.datapath.specs.declared.Step.TheVariants.{Input, Constant, Add, Subtract, Multiply}

pub length-values : (ts : List Step) (x : List ℤ) (k : ℕ) → length (values ts x k) ≡ k
unfolding values
length-values ts x zero = refl
length-values ts x (suc k) = rw (length-append, length-values ts x k) (add-one k)

pub values-step :
    (ts : List Step) (x : List ℤ) (k : ℕ) →
    values ts x (k + 1) ≡ values ts x k ++ (step_value x (values ts x k) (get_or ts k (Constant 0)) ∷ [])
unfolding values
values-step ts x k = rw add-one

-- values that are congruent: those of steps at vectors whose entries are
module _ (m : ℕ) (x y : List ℤ) (same : (i : ℕ) → remainder (get_or x i (pos 0)) (2 ^ m) ≡ remainder (get_or y i (pos 0)) (2 ^ m)) where
  abbrev Congruent : ℤ → ℤ → Type 0
  Congruent a b = remainder a (2 ^ m) ≡ remainder b (2 ^ m)

  step_congruent :
      (vs ws : List ℤ) (t : Step) → ((i : ℕ) → Congruent (get_or vs i (pos 0)) (get_or ws i (pos 0))) → Congruent (step_value x vs t) (step_value y ws t)
  unfolding step_value
  step_congruent vs ws (Input i) e = same i
  step_congruent vs ws (Constant c) e = refl
  step_congruent vs ws (Add l r) e =
      remainder-add _ _ (2 ^ m) (pow_pos m) ∙ ap₂ (λ a b. (a + b) % 2 ^ m) (e l) (e r) ∙ sym (remainder-add _ _ (2 ^ m) (pow_pos m))
  step_congruent vs ws (Subtract l r) e =
      remainder-sub _ _ (2 ^ m) (pow_pos m) ∙ ap₂ (λ a b. (a + (2 ^ m - b)) % 2 ^ m) (e l) (e r) ∙ sym (remainder-sub _ _ (2 ^ m) (pow_pos m))
  step_congruent vs ws (Multiply l r) e =
      remainder-mul _ _ (2 ^ m) (pow_pos m) ∙ ap₂ (λ a b. (a * b) % 2 ^ m) (e l) (e r) ∙ sym (remainder-mul _ _ (2 ^ m) (pow_pos m))

  -- one value more
  snoc_congruent :
      (vs ws : List ℤ) (a b : ℤ) → length vs ≡ length ws → ((i : ℕ) → Congruent (get_or vs i (pos 0)) (get_or ws i (pos 0))) → Congruent a b →
      (i : ℕ) → Congruent (get_or (vs ++ (a ∷ [])) i (pos 0)) (get_or (ws ++ (b ∷ [])) i (pos 0))
  snoc_congruent [] [] a b l e c zero = c
  snoc_congruent [] [] a b l e c (suc i) = refl
  snoc_congruent [] (w ∷ ws) a b l e c i = absurd (omega arith)
  snoc_congruent (v ∷ vs) [] a b l e c i = absurd (omega arith)
  snoc_congruent (v ∷ vs) (w ∷ ws) a b l e c zero = e 0
  snoc_congruent (v ∷ vs) (w ∷ ws) a b l e c (suc i) = snoc_congruent vs ws a b (omega arith) (λ j. e (suc j)) c i

  pub values_congruent : (ts : List Step) (k i : ℕ) → Congruent (get_or (values ts x k) i (pos 0)) (get_or (values ts y k) i (pos 0))
  unfolding values
  values_congruent ts zero i = refl
  values_congruent ts (suc k) i =
      snoc_congruent (values ts x k) (values ts y k) _ _ (length-values ts x k ∙ sym (length-values ts y k)) (values_congruent ts k)
      (step_congruent (values ts x k) (values ts y k) (get_or ts k (Constant 0)) (values_congruent ts k)) i

  -- the outputs at vectors with congruent entries are equal
  pub output_congruent : (ts : List Step) → output m ts x ≡ output m ts y
  unfolding output exact
  output_congruent ts = values_congruent ts (length ts) (length ts - 1)
