-- Along one input, the others fixed, the exact value of every step is a polynomial in Newton–Horner form of the count from any value of that
-- input: one case for each operation, and induction on the steps. So two datapaths whose outputs agree at L(m) values of that input from one
-- up agree at all from there up.
use mathlib.Core.Path.{◌≡◌, refl, sym, ◌∙◌, ap, ap₂}
use mathlib.Core.Bool.{true, false, cond}
use mathlib.Core.Logic.{⊎_elim}
use mathlib.Core.List.{List, [], ◌∷◌, ◌++◌, map}
use Prim.Native.Nat.{ℕ, zero, suc, ◌-◌, ◌^◌, ◌<◌}
use lib.Dec.{eqb}
use lib.IntN.{ℤ, pos, ◌+ℤ◌, ◌-ℤ◌, ◌*ℤ◌}
use lib.ListN.{get_or, length, get_or-map}
use lib.Pow.{pow_pos}
use lib.Seq.{get_or-append_seam}
use borrow.Author.Tests.{eqb-true, eqb-false}
use Rattle.bound.specs.Bound.{bound}
use Rattle.bound.proofs.Algorithm.{least_bound}
use Rattle.integers.specs.Modulo.{Divides}
use Rattle.integers.proofs.Divisibility.{divides_of_mod}
use Rattle.integers.proofs.Remainder.{congruent→equal, equal→congruent}
use Rattle.lists.proofs.Lists.{map-append}
use Rattle.newton.specs.Arithmetic as Newton
use Rattle.newton.specs.Polynomial.{value}
use Rattle.newton.proofs.Arithmetic.{value-add, value-sub, value-mul, value-constant, value_shifted}
use Rattle.newton.proofs.OneVariable.{one_variable}
use Rattle.ranges.proofs.Search.{true_or_false}
use Rattle.datapath.specs.Steps.{step_value, values, exact, output}
use Rattle.datapath.specs.declared.Step.{Step}
use Rattle.datapath.specs.declared.Step.TheVariants.{Input, Constant, Add, Subtract, Multiply}
use Rattle.grid_theorem.specs.Comparison.{Agree}

-- an entry other than the one between two lists does not depend on that one
get_or_other :
    (pre post : List ℤ) (t u : ℤ) (i : ℕ) → (i ≡ length pre → ⊥) → get_or (pre ++ t ∷ post) i (pos 0) ≡ get_or (pre ++ u ∷ post) i (pos 0)
get_or_other [] post t u zero n = absurd (n refl)
get_or_other [] post t u (suc i) n = refl
get_or_other (a ∷ pre) post t u zero n = refl
get_or_other (a ∷ pre) post t u (suc i) n = get_or_other pre post t u i (λ e. n (ap suc e))

module _ (lo : ℤ) (pre post : List ℤ) where
  -- the vector with the input between pre and post at the count t from lo
  abbrev along : ℕ → List ℤ
  along t = pre ++ (lo +ℤ pos t) ∷ post

  input_polynomial : ℕ → List ℤ
  input_polynomial i = cond (eqb i (length pre)) (lo ∷ pos 1 ∷ []) (get_or (along 0) i (pos 0) ∷ [])

  step_polynomial : List (List ℤ) → Step → List ℤ
  step_polynomial ps (Input i) = input_polynomial i
  step_polynomial ps (Constant c) = pos c ∷ []
  step_polynomial ps (Add l r) = Newton.add (get_or ps l []) (get_or ps r [])
  step_polynomial ps (Subtract l r) = Newton.sub (get_or ps l []) (get_or ps r [])
  step_polynomial ps (Multiply l r) = Newton.mul (get_or ps l []) (get_or ps r [])

  polynomials : List Step → ℕ → List (List ℤ)
  polynomials ts zero = []
  polynomials ts (suc k) =
      let before = polynomials ts k in
      before ++ (step_polynomial before (get_or ts k (Constant 0)) ∷ [])

  exact_polynomial : List Step → List ℤ
  exact_polynomial ts = get_or (polynomials ts (length ts)) (length ts - 1) []

  module _ (t : ℕ) where
    at : List ℤ → ℤ
    at p = value p (pos t)

    input_valued : (i : ℕ) → get_or (along t) i (pos 0) ≡ at (input_polynomial i)
    unfolding at input_polynomial
    input_valued i =
        ⊎_elim
        (λ (e : eqb i (length pre) ≡ true).
        rw (e, eqb-true i (length pre) e, get_or-append_seam pre (lo +ℤ pos t) post (pos 0)) (sym (value_shifted lo (pos t))))
        (λ (e : eqb i (length pre) ≡ false).
        rw (e, get_or_other pre post (lo +ℤ pos t) (lo +ℤ pos 0) i (eqb-false i (length pre) e)) (sym (value-constant _ (pos t))))
        (true_or_false (eqb i (length pre)))

    operand : (ps : List (List ℤ)) (l : ℕ) → get_or (map at ps) l (pos 0) ≡ at (get_or ps l [])
    unfolding at value
    operand ps l = get_or-map at ps l []

    step_valued : (ps : List (List ℤ)) (s : Step) → step_value (along t) (map at ps) s ≡ at (step_polynomial ps s)
    unfolding step_value step_polynomial at
    step_valued ps (Input i) = input_valued i
    step_valued ps (Constant c) = sym (value-constant (pos c) (pos t))
    step_valued ps (Add l r) = ap₂ (λ y z. y +ℤ z) (operand ps l) (operand ps r) ∙ sym (value-add (get_or ps l []) (get_or ps r []) (pos t))
    step_valued ps (Subtract l r) = ap₂ (λ y z. y -ℤ z) (operand ps l) (operand ps r) ∙ sym (value-sub (get_or ps l []) (get_or ps r []) (pos t))
    step_valued ps (Multiply l r) = ap₂ (λ y z. y *ℤ z) (operand ps l) (operand ps r) ∙ sym (value-mul (get_or ps l []) (get_or ps r []) (pos t))

    all_valued : (ts : List Step) (k : ℕ) → values ts (along t) k ≡ map at (polynomials ts k)
    unfolding values polynomials
    all_valued ts zero = refl
    all_valued ts (suc k) =
        rw (all_valued ts k, map-append at (polynomials ts k), step_valued)

    exact_valued : (ts : List Step) → exact ts (along t) ≡ at (exact_polynomial ts)
    unfolding exact exact_polynomial
    exact_valued ts = rw (all_valued ts (length ts)) (operand (polynomials ts (length ts)) (length ts - 1))

-- outputs that agree at L(m) values of one input from lo up agree at all of its values from there up
pub agree-along :
    (m : ℕ) (ts₁ ts₂ : List Step) (lo : ℤ) (pre post : List ℤ) →
    ((t : ℕ) → t < bound m → Agree m ts₁ ts₂ (pre ++ (lo +ℤ pos t) ∷ post)) →
    (x : ℕ) →
    Agree m ts₁ ts₂ (pre ++ (lo +ℤ pos x) ∷ post)
unfolding output at
agree-along m ts₁ ts₂ lo pre post agrees x =
    congruent→equal (exact ts₁ (vector x)) (exact ts₂ (vector x)) (2 ^ m) (pow_pos m)
    (rw (gap x) (one_variable (2 ^ m) (bound m) (divides_of_mod (2 ^ m) _ (least_bound m).divides) p below x))
  where
    vector : ℕ → List ℤ
    vector t = pre ++ (lo +ℤ pos t) ∷ post

    p : List ℤ
    p = Newton.sub (exact_polynomial lo pre post ts₁) (exact_polynomial lo pre post ts₂)

    gap : (t : ℕ) → exact ts₁ (vector t) -ℤ exact ts₂ (vector t) ≡ value p (pos t)
    gap t =
        ap₂ (λ y z. y -ℤ z) (exact_valued lo pre post t ts₁) (exact_valued lo pre post t ts₂)
        ∙ sym (value-sub (exact_polynomial lo pre post ts₁) (exact_polynomial lo pre post ts₂) (pos t))

    below : (t : ℕ) → t < bound m → Divides (2 ^ m) (value p (pos t))
    below t h = rw (gap t) at (equal→congruent (exact ts₁ (vector t)) (exact ts₂ (vector t)) (2 ^ m) (pow_pos m) (agrees t h))
