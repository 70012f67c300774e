-- What holds of `IsExponent`: every number above 0 has one; e is the exponent of 2^e times an odd number, and every number is such a product;
-- so the exponents of two factors add up to that of their product, since odd times odd is odd.
use mathlib.Core.Path.{◌≡◌, sym, ◌∙◌, ap, ap₂, subst}
use Prim.Native.Nat.{ℕ, zero, suc, ◌+◌, ◌*◌, ◌-◌, ◌/◌, ◌%◌, ◌^◌, ◌≤◌, ◌<◌}
use native.Mathlib.Nat.{mod-one, zero-mod, mod-add-div, mod-lt, mul-mod_right, mul-add-mod_self_left, mul-mul-mul_comm, mul_assoc, pow-suc, two-pow-succ, one-mul, le_antisymm}
use native.Mathlib.Nat.{le_of_dvd, dvd_of_mod-eq-zero, mod-eq-zero_of_dvd, dvd_of_mul-dvd-mul_left}
use native.Mathlib.Decide.{ℕ_discrete, dec_le}
use native.Mathlib.Omega.{arith}
use lib.Dec.{lit<}
use lib.Pow.{pow_pos, pow-add, pow_mono, mod-mod-pow, shl_exact}
use Rattle.integers.specs.Exponent.{IsExponent}

-- the powers of two up to one that divides n divide it
pub power_coarse : (n j e : ℕ) → j ≤ e → n % 2 ^ e ≡ 0 → n % 2 ^ j ≡ 0
power_coarse n j e h d =
    let q : e ≡ e - j + j = omega arith in
    sym (mod-mod-pow n (e - j) j) ∙ ap (λ i. n % 2 ^ i % 2 ^ j) (sym q) ∙ ap (λ r. r % 2 ^ j) d ∙ zero-mod (2 ^ j)

-- 2^e divides no number below it but 0
pub exponent-most : (n e k : ℕ) → 0 < n → n < 2 ^ (k + 1) → n % 2 ^ e ≡ 0 → e ≤ k
exponent-most n e k h l d =
    elim (dec_le e k) [
      | yes l ↦ l
      | no a ↦ absurd (omega (arith, l, le_of_dvd h (dvd_of_mod-eq-zero (2 ^ e) d), pow_mono {i = k + 1} {j = e} (omega arith)))
    ]

pub exponent_unique : (n e f : ℕ) → IsExponent n e → IsExponent n f → e ≡ f
exponent_unique n e f p q = le_antisymm (q.greatest e p.divides) (p.greatest f q.divides)

-- a power of two is what a shift of 1 leaves of it in a word of w bits, w above the exponent
pub power_shifted : (w k : ℕ) → k < w → 1 * 2 ^ k % 2 ^ w ≡ 2 ^ k
power_shifted w k l = shl_exact 1 k w (lit< tt) (omega arith) ∙ one-mul (2 ^ k)

-- a number is below two to its power
pub below_power : (n : ℕ) → n < 2 ^ n
below_power zero = lit< tt
below_power (suc n) = omega (arith, below_power n, two-pow-succ n)

pub below_next : (n : ℕ) → n < 2 ^ (n + 1)
below_next n = omega (arith, below_power n, pow_mono {i = n} {j = n + 1} (omega arith))

-- the greatest exponent, where none is above k
down : (n k : ℕ) → ((j : ℕ) → n % 2 ^ j ≡ 0 → j ≤ k) → (e : ℕ) × IsExponent n e
down n zero h = (0, record { divides = mod-one n; greatest = h })
down n (suc k) h =
    elim (ℕ_discrete (n % 2 ^ suc k) 0) [
      | yes d ↦ (suc k, record { divides = d; greatest = h })
      | no a ↦ down n k (λ j d. below j (h j d) (λ e. a (subst (λ i. n % 2 ^ i ≡ 0) e d)))
    ]
  where
    below : (j : ℕ) → j ≤ suc k → ¬ (j ≡ suc k) → j ≤ k
    below j l n = omega arith

pub exponent : (n : ℕ) → 0 < n → (e : ℕ) × IsExponent n e
exponent n h = down n n (λ j d. exponent-most n j n h (below_next n) d)

-- of 2^e times an odd number e is the exponent
pub exponent_odd : (e u : ℕ) → u % 2 ≡ 1 → IsExponent (2 ^ e * u) e
exponent_odd e u odd =
    record { divides = mul-mod_right (2 ^ e) u; greatest = λ k d. elim (dec_le k e) [ yes l ↦ l | no n ↦ absurd (more k d (omega arith)) ] }
  where
    more : (k : ℕ) → 2 ^ e * u % 2 ^ k ≡ 0 → e + 1 ≤ k → ⊥
    more k d l =
        let twice : 2 ^ e * u % (2 ^ e * 2) ≡ 0 = rw (← (pow-suc 2 e)) (power_coarse (2 ^ e * u) (suc e) k (omega arith) d) in
        let even = mod-eq-zero_of_dvd 2 (dvd_of_mul-dvd-mul_left 2 (pow_pos e) (dvd_of_mod-eq-zero (2 ^ e * 2) twice)) in
        omega (arith, odd, even)

-- and each number is such a product
parted : (n e : ℕ) → IsExponent n e → n ≡ 2 ^ e * (n / 2 ^ e)
parted n e p = omega (arith, mod-add-div n (2 ^ e), p.divides)

odd_part : (n e : ℕ) → IsExponent n e → n / 2 ^ e % 2 ≡ 1
odd_part n e p =
    elim (ℕ_discrete (n / 2 ^ e % 2) 0) [
      | yes d ↦ absurd (omega (arith, p.greatest (suc e) (whole d)))
      | no a ↦ omega (arith, a, mod-lt (n / 2 ^ e) {m = 2} (lit< tt))
    ]
  where
    whole : n / 2 ^ e % 2 ≡ 0 → n % 2 ^ suc e ≡ 0
    whole d =
        let h : n / 2 ^ e ≡ 2 * (n / 2 ^ e / 2) = omega (arith, mod-add-div (n / 2 ^ e) 2, d) in
        let q : n ≡ 2 ^ e * 2 * (n / 2 ^ e / 2) = parted n e p ∙ ap (λ u. 2 ^ e * u) h ∙ sym (mul_assoc (2 ^ e) 2 (n / 2 ^ e / 2)) in
        ap (λ x. x % 2 ^ suc e) q ∙ rw (pow-suc 2 e) (mul-mod_right (2 ^ e * 2) (n / 2 ^ e / 2))

odd_product : (u w : ℕ) → u % 2 ≡ 1 → w % 2 ≡ 1 → u * w % 2 ≡ 1
odd_product u w d e =
    let f : u ≡ 2 * (u / 2) + 1 = omega (arith, mod-add-div u 2, d) in
    let g : w ≡ 2 * (w / 2) + 1 = omega (arith, mod-add-div w 2, e) in
    ap₂ (λ x y. x * y % 2) f g ∙ product (u / 2) (w / 2)
  where
    product : (a b : ℕ) → (2 * a + 1) * (2 * b + 1) % 2 ≡ 1
    product a b =
        let q : (2 * a + 1) * (2 * b + 1) ≡ 2 * (2 * (a * b) + a + b) + 1 = omega arith in
        ap (λ x. x % 2) q ∙ mul-add-mod_self_left 2 (2 * (a * b) + a + b) 1

pub exponent-product : (n k e f : ℕ) → IsExponent n e → IsExponent k f → IsExponent (n * k) (e + f)
exponent-product n k e f p q =
    let u = n / 2 ^ e in
    let w = k / 2 ^ f in
    let same : 2 ^ (e + f) * (u * w) ≡ n * k = rw (pow-add 2 e f, mul-mul-mul_comm (2 ^ e) (2 ^ f) u w, ← (parted n e p), ← (parted k f q)) in
    subst (λ x. IsExponent x (e + f)) same (exponent_odd (e + f) (u * w) (odd_product u w (odd_part n e p) (odd_part k f q)))
