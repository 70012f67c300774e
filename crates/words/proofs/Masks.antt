-- The cut to m bits in a word of 64: below 64 the shifted 1 is 2^m, and the mask one less; from 64 on, the number is below 2^m.
-- Assumes nothing.
use Rattle.std.proofs.Common.{◌≡◌, ℕ, ◌*◌, ◌-◌, ◌%◌, ◌^◌, ◌<◌, ◌≤◌, ap, ◌∙◌, lt_of_lt_of_le, mod-eq_of_lt, pow_mono}
use lib.Bits.{bit_and, and_mask}
use Rattle.integers.proofs.Exponent.{power_shifted}

pub cut_masked : (x m : ℕ) → m < 64 → bit_and x (1 * 2 ^ m % 2 ^ 64 - 1) ≡ x % 2 ^ m
cut_masked x m l = ap (λ n. bit_and x (n - 1)) (power_shifted 64 m l) ∙ and_mask x m

pub cut_whole : (x m : ℕ) → x < 2 ^ 64 → 64 ≤ m → x % 2 ^ m ≡ x
cut_whole x m f l = mod-eq_of_lt (lt_of_lt_of_le f (pow_mono l))
