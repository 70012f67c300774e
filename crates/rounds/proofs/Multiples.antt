-- Multiples of m. Assumes nothing.
use Rattle.std.proofs.Common.{◌≡◌, ℕ, zero, suc, ◌+◌, ◌*◌, ◌/◌, ◌%◌, ◌<◌, ◌≤◌, mul-le-mul_right, lt_of_mul-lt-mul_right, div-add-mod', arith}
use native.Mathlib.Nat.{mod-zero, zero-mod}

pub factors_least : (u w : ℕ) → 0 < u * w → (0 < u) × (0 < w)
factors_least zero w h = absurd (omega arith)
factors_least (suc u) zero h = absurd (omega arith)
factors_least (suc u) (suc w) h = (omega arith, omega arith)

pub multiple-least : (m n : ℕ) → n % m ≡ 0 → 0 < n → 0 < m
multiple-least zero n e h = absurd (omega (arith, mod-zero n))
multiple-least (suc m) n e h = omega arith

-- the next multiple
pub multiple-next : (m a b : ℕ) → a % m ≡ 0 → b % m ≡ 0 → a < b → a + m ≤ b
multiple-next m a b p q h = next (a / m) (b / m) (omega (arith, div-add-mod' a m)) (omega (arith, div-add-mod' b m))
  where
    next : (i j : ℕ) → a ≡ i * m → b ≡ j * m → a + m ≤ b
    next i j e f =
        let l : i < j = lt_of_mul-lt-mul_right m (omega arith) in
        omega (arith, mul-le-mul_right m l)

pub multiple-most : (m n : ℕ) → n % m ≡ 0 → 0 < n → m ≤ n
multiple-most m n e h = omega (arith, multiple-next m 0 n (zero-mod m) e h)
