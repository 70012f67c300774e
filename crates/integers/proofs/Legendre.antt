-- Legendre's rule, by induction on n. From n to n + 1 the quotient by 2^i grows by 1 where 2^i divides n + 1, which is so for i up to the
-- exponent of two in n + 1, and by 0 elsewhere; and the exponent in (n + 1)! is that in n + 1 more than that in n!.
use mathlib.Core.Path.{◌≡◌, refl, sym, ◌∙◌, ap, subst}
use Prim.Native.Nat.{ℕ, zero, suc, ◌+◌, ◌*◌, ◌-◌, ◌/◌, ◌%◌, ◌^◌, ◌<◌, min}
use native.Mathlib.Nat.{mod-eq_of_lt, mod-add-div, mod-lt, mod_self, zero-div, div-eq_of_lt, add-mul-div_left, add-mul-mod_self_left, div_self, two-pow-succ, zero-lt-suc}
use native.Mathlib.Decide.{dec_le, dec_lt}
use native.Mathlib.Omega.{arith}
use lib.Dec.{lit<}
use lib.Pow.{pow_pos, pow-add}
use Rattle.lists.specs.Lists.{tabulate, sum_of}
use Rattle.integers.specs.Exponent.{IsExponent, quotients, Legendre}
use Rattle.integers.specs.Modulo.{factorial}
use Rattle.integers.proofs.Exponent.{power_coarse, exponent-most, exponent, exponent_odd, exponent_unique, exponent-product, below_next}

module _ (n M : ℕ) (h : 0 < M) where
  next : suc n ≡ suc (n % M) + M * (n / M)
  next = omega (arith, mod-add-div n M)

  -- below the last remainder
  quotient-kept : suc (n % M) < M → suc n / M ≡ n / M
  quotient-kept l =
      ap (λ x. x / M) next ∙ add-mul-div_left (suc (n % M)) (n / M) h ∙ ap (λ q. q + n / M) (div-eq_of_lt l) ∙ omega arith

  remainder-grown : suc (n % M) < M → suc n % M ≡ suc (n % M)
  remainder-grown l = ap (λ x. x % M) next ∙ add-mul-mod_self_left (suc (n % M)) M (n / M) ∙ mod-eq_of_lt l

  quotient-grown : suc n % M ≡ 0 → suc n / M ≡ n / M + 1
  quotient-grown d =
      elim (dec_lt (suc (n % M)) M) [
        | yes l ↦ absurd (omega (arith, remainder-grown l, d))
        | no a ↦
            let e : suc (n % M) ≡ M = omega (arith, mod-lt n h) in
            ap (λ x. x / M) (next ∙ ap (λ x. x + M * (n / M)) e) ∙ add-mul-div_left M (n / M) h ∙ ap (λ q. q + n / M) (div_self h) ∙ omega arith
      ]

  quotient-same : ¬ (suc n % M ≡ 0) → suc n / M ≡ n / M
  quotient-same a =
      elim (dec_lt (suc (n % M)) M) [
        | yes l ↦ quotient-kept l
        | no b ↦
            let e : suc (n % M) ≡ M = omega (arith, mod-lt n h) in
            absurd (a (ap (λ x. x % M) (next ∙ ap (λ x. x + M * (n / M)) e) ∙ add-mul-mod_self_left M M (n / M) ∙ mod_self M))
      ]

-- the quotients of n by 2^i for the k numbers i from j on
abbrev sum : ℕ → ℕ → ℕ → ℕ
sum n j k = sum_of (tabulate (λ i. n / 2 ^ i) j k)

-- as many of these i as are at most the exponent let the quotient grow
grown : (n e : ℕ) → IsExponent (suc n) e → (j k : ℕ) → sum (suc n) j k ≡ sum n j k + (min (j + k) (e + 1) - j)
unfolding tabulate sum_of
grown n e p j zero = omega arith
grown n e p j (suc k) =
    elim (dec_le j e) [
      | yes l ↦ omega (arith, grown n e p (j + 1) k, quotient-grown n (2 ^ j) (pow_pos j) (power_coarse (suc n) j e l p.divides))
      | no a ↦ omega (arith, grown n e p (j + 1) k, quotient-same n (2 ^ j) (pow_pos j) (λ d. a (p.greatest j d)))
    ]

none : (j k : ℕ) → sum 0 j k ≡ 0
unfolding tabulate sum_of
none j zero = refl
none j (suc k) = omega (arith, zero-div (2 ^ j), none (j + 1) k)

exponent_one : IsExponent 1 0
exponent_one = record { divides = refl; greatest = λ k d. exponent-most 1 k 0 (lit< tt) (lit< tt) d }

pub legendre : Legendre
unfolding quotients factorial
legendre zero k h = subst (IsExponent 1) (sym (none 1 k)) exponent_one
legendre (suc n) k h =
    let x = exponent (suc n) (zero-lt-suc n) in
    let e = x.0 in
    let few = exponent-most (suc n) e k (zero-lt-suc n) h x.1.divides in
    subst (IsExponent (suc n * factorial n))
    (omega (arith, grown n e x.1 1 k, few))
    (exponent-product (suc n) (factorial n) e (sum n 1 k) x.1 (legendre n k (omega arith)))

-- the exponent of two in n!
pub twos : ℕ → ℕ
twos n = sum_of (quotients n n)

pub twos-exponent : (n : ℕ) → IsExponent (factorial n) (twos n)
unfolding twos
twos-exponent n = legendre n n (below_next n)

twos-quotients : (n k : ℕ) → n < 2 ^ (k + 1) → twos n ≡ sum_of (quotients n k)
twos-quotients n k h = exponent_unique (factorial n) (twos n) (sum_of (quotients n k)) (twos-exponent n) (legendre n k h)

-- 2^v adds 2^(v − i) to the quotient by 2^i
sum-power : (v x j k : ℕ) → j + k ≡ suc v → sum (2 ^ v + x) j k ≡ sum x j k + (2 ^ k - 1)
unfolding tabulate sum_of
sum-power v x j zero h = omega arith
sum-power v x j (suc k) h =
    let p : 2 ^ v ≡ 2 ^ j * 2 ^ k = ap (λ i. 2 ^ i) (omega arith) ∙ pow-add 2 j k in
    let q : (2 ^ v + x) / 2 ^ j ≡ x / 2 ^ j + 2 ^ k =
    ap (λ y. (y + x) / 2 ^ j) p ∙ ap (λ y. y / 2 ^ j) (omega arith) ∙ add-mul-div_left x (2 ^ k) (pow_pos j) in
    omega (arith, q, sum-power v x (j + 1) k (omega arith), two-pow-succ k, pow_pos k)

twos-none : twos 0 ≡ 0
unfolding factorial
twos-none = exponent_unique 1 (twos 0) 0 (twos-exponent 0) exponent_one

-- above a power of two
pub twos-power : (v x : ℕ) → x < 2 ^ v → twos (2 ^ v + x) ≡ 2 ^ v - 1 + twos x
unfolding quotients
twos-power v x h =
    twos-quotients (2 ^ v + x) v (omega (arith, q))
    ∙ sum-power v x 1 v (omega arith)
    ∙ omega (arith, twos-quotients x v (omega (arith, q)))
  where
    q : 2 ^ (v + 1) ≡ 2 ^ v + 2 ^ v
    q = ap (λ i. 2 ^ i) (omega arith) ∙ two-pow-succ v

pub twos_of_power : (v : ℕ) → twos (2 ^ v) ≡ 2 ^ v - 1
twos_of_power v =
    let e : 2 ^ v ≡ 2 ^ v + 0 = omega arith in
    ap twos e ∙ twos-power v 0 (pow_pos v) ∙ omega (arith, twos-none)

-- just below one
pub twos-before : (v : ℕ) → twos (2 ^ v - 1) + v ≡ 2 ^ v - 1
unfolding factorial
twos-before v =
    let b = 2 ^ v - 1 in
    let e : 2 ^ v * 1 ≡ suc b = omega (arith, pow_pos v) in
    let f : suc b ≡ 2 ^ v = omega (arith, pow_pos v) in
    let p = exponent-product (suc b) (factorial b) v (twos b) (subst (λ n. IsExponent n v) e (exponent_odd v 1 refl)) (twos-exponent b) in
    omega (arith, exponent_unique (factorial (suc b)) (v + twos b) (twos (suc b)) p (twos-exponent (suc b)), ap twos f, twos_of_power v)
