-- Multiplication by halves, modulo the square of the base H, which is 2^32 for words of 64 bits. The product of the upper halves is a
-- multiple of H · H, so it falls away. Assumes nothing.
use Rattle.std.proofs.Common.{◌≡◌, ℕ, ◌+◌, ◌*◌, ◌/◌, ◌%◌, ◌^◌, ◌<◌, sym, ap, ◌∙◌, lt_of_le_of_lt, le_of_lt, mul-le-mul_left, mul-lt-mul_of_pos_right, arith, pow_pos, pow-add}
use mathlib.Core.Path.{subst⁻¹}
use native.Mathlib.Nat.{div-add-mod, mul-add-mod_self_left, mod-add-mod}

-- the product of two numbers of k bits has at most k + k
pub product-most : (k : ℕ) {a b : ℕ} → a < 2 ^ k → b < 2 ^ k → a * b < 2 ^ (k + k)
product-most k {a} {b} ha hb =
    subst⁻¹ (λ (n : ℕ). a * b < n) (pow-add 2 k k)
    (lt_of_le_of_lt (mul-le-mul_left a (le_of_lt hb)) (mul-lt-mul_of_pos_right ha (pow_pos k)))

mod_times_mod : (x m h : ℕ) → (x % m * h) % m ≡ (x * h) % m
mod_times_mod x m h =
    sym (mul-add-mod_self_left m (x / m * h) (x % m * h)) ∙ ap (λ (n : ℕ). n % m) (whole (x / m) (x % m) x (div-add-mod x m))
  where
    whole : (q r y : ℕ) → m * q + r ≡ y → m * (q * h) + r * h ≡ y * h
    whole q r y e = rw (← e) (omega arith)

-- a1 and b1 are the upper halves, a0 and b0 the lower
pub by-halves :
    (H a1 a0 b1 b0 : ℕ)
    → (((a1 * b0 + a0 * b1) % (H * H) * H) % (H * H) + a0 * b0) % (H * H) ≡ ((H * a1 + a0) * (H * b1 + b0)) % (H * H)
by-halves H a1 a0 b1 b0 =
    ap (λ (n : ℕ). (n + a0 * b0) % (H * H)) (mod_times_mod (a1 * b0 + a0 * b1) (H * H) H)
    ∙ mod-add-mod ((a1 * b0 + a0 * b1) * H) (H * H) (a0 * b0)
    ∙ sym (mul-add-mod_self_left (H * H) (a1 * b1) ((a1 * b0 + a0 * b1) * H + a0 * b0))
    ∙ ap (λ (n : ℕ). n % (H * H)) (omega arith)
