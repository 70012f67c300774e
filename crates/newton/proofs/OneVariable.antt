-- The statements of specs/Statement.antt.
-- The k-fold difference at 0 is k!·c_k, since the j-th coefficient of a difference is (j + 1)·c_(j+1). If M divides a function on
-- 0 .. n − 1, it divides the differences at 0 below the n-th. If M divides all the differences at 0, it divides the function
-- everywhere, by f(x + 1) = f(x) + (Δf)(x). So all that is left to show is that M divides k!·c_k for k ≥ n.
use mathlib.Core.Path.{◌≡◌, refl, sym, ◌∙◌, ap, ap₂, subst}
use mathlib.Core.List.{List, [], ◌∷◌}
use Prim.Native.Nat.{ℕ, zero, suc, ◌≤◌, ◌<◌}
use native.Mathlib.Decide.{dec_lt}
use native.Mathlib.Numerals.{add-one}
use native.Mathlib.Omega.{arith}
use lib.IntN.{ℤ, pos, negsuc, ◌+ℤ◌, ◌-ℤ◌, ◌*ℤ◌, +ℤ_idr, zero-*ℤ}
use lib.ListN.{length, get_or-eq_default}
use Rattle.integers.specs.Modulo.{Divides, factorial}
use Rattle.integers.proofs.Ring.{sub-push, sub_eq, ring₂, *ℤ-assoc, *ℤ-left-comm, *ℤ-idl}
use Rattle.integers.proofs.Divisibility.{divides-zero, divides-add, divides-sub, divides-mul-left, divides-mul-right, divides-factorial}
use Rattle.newton.specs.Difference.{difference, differences}
use Rattle.newton.specs.Polynomial.{value, coefficient}
use Rattle.newton.specs.Arithmetic.{delta}
use Rattle.newton.specs.Statement.{NewtonCoefficients, OneVariable, ByDegree}
use Rattle.newton.proofs.Arithmetic.{value-delta, coefficient-delta}

value-first : (p : List ℤ) → value p (pos 0) ≡ coefficient p 0
unfolding value coefficient
value-first [] = refl
value-first (c ∷ q) = ap (λ y. c +ℤ y) (zero-*ℤ (value q (negsuc 0))) ∙ +ℤ_idr c

-- for any function that agrees with p at the natural numbers
newton :
    (k : ℕ) (p : List ℤ) (f : ℕ → ℤ) →
    ((x : ℕ) → f x ≡ value p (pos x)) → differences k f 0 ≡ pos (factorial k) *ℤ coefficient p k
unfolding differences difference factorial
newton zero p f e = e 0 ∙ value-first p ∙ sym (*ℤ-idl (coefficient p 0))
newton (suc k) p f e =
    newton k (delta p) (difference f)
    (λ x. ap₂ (λ y z. y -ℤ z) (e (suc x)) (e x) ∙ sym (value-delta p (pos x) ∙ rw add-one))
    ∙ ap (λ y. pos (factorial k) *ℤ y) (coefficient-delta p k)
    ∙ *ℤ-left-comm (pos (factorial k)) (pos (suc k)) (coefficient p (suc k))
    ∙ sym (*ℤ-assoc (pos (suc k)) (pos (factorial k)) (coefficient p (suc k)))

pub newton_coefficients : NewtonCoefficients
newton_coefficients p k = newton k p (λ x. value p (pos x)) (λ x. refl)

-- if M divides every difference of f at 0, it divides f at every x
divides_from_differences :
    (M x : ℕ) (f : ℕ → ℤ) → ((k : ℕ) → Divides M (differences k f 0)) → Divides M (f x)
unfolding differences difference
divides_from_differences M zero f h = h 0
divides_from_differences M (suc x) f h =
    subst (Divides M) (step (f x) (f (suc x)))
    (divides-add
    (divides_from_differences M x f h)
    (divides_from_differences M x (difference f) (λ k. h (suc k))))
  where
    step : (a b : ℤ) → a +ℤ (b -ℤ a) ≡ b
    step = ring₂ _ λ a b c d. simp sub-push (sub_eq _ _ _ _ (omega arith))

-- if M divides f at 0 .. k, it divides the k-fold difference of f at 0
divides-differences :
    (M k : ℕ) (f : ℕ → ℤ) → ((t : ℕ) → t ≤ k → Divides M (f t)) → Divides M (differences k f 0)
unfolding differences difference
divides-differences M zero f h = h 0 (omega arith)
divides-differences M (suc k) f h =
    divides-differences M k (difference f) (λ t l. divides-sub (h (suc t) (omega arith)) (h t (omega arith)))

-- the common part of both theorems
divides_everywhere :
    (M n : ℕ) (p : List ℤ) →
    ((k : ℕ) → n ≤ k → Divides M (pos (factorial k) *ℤ coefficient p k)) →
    ((t : ℕ) → t < n → Divides M (value p (pos t))) → (x : ℕ) → Divides M (value p (pos x))
divides_everywhere M n p high low x =
    divides_from_differences M x (λ x. value p (pos x)) (λ k. at k (dec_lt k n))
  where
    at : (k : ℕ) → Dec (k < n) → Divides M (differences k (λ x. value p (pos x)) 0)
    at k (yes l) = divides-differences M k (λ x. value p (pos x)) (λ t h. low t (omega arith))
    at k (no l) = subst (Divides M) (sym (newton_coefficients p k)) (high k (omega arith))

pub one_variable : OneVariable
one_variable M L d p low =
    divides_everywhere M L p (λ k h. divides-mul-right (coefficient p k) (divides-factorial M L k d h)) low

pub by_degree : ByDegree
unfolding coefficient
by_degree M g p short low =
    divides_everywhere M (suc g) p
    (λ k h. divides-mul-left (pos (factorial k)) (past k (omega arith)))
    (λ t h. low t (omega arith))
  where
    past : (k : ℕ) → length p ≤ k → Divides M (coefficient p k)
    past k h = rw (get_or-eq_default p (pos 0) h) (divides-zero M)
