-- Remainder, divisibility and factorial over the integers.
--   remainder a M      the remainder of the integer a modulo M. The integer negsuc a is −(a + 1)
--   Divides M a        M divides the integer a
--   IsRemainder M a r  the natural number r is the remainder of a modulo M: it is below M, and M divides a − r
--   Remainders         remainder a M is just that, for every integer a and every M above 0. Proved in proofs/Remainder
--   factorial n        n!
use Rattle.std.specs.Prelude.{◌≡◌, ℕ, zero, suc, ◌*◌, ◌-◌, ◌%◌, ◌<◌, ℤ, pos, negsuc, ◌-ℤ◌, ◌*ℤ◌}

unfoldable pub remainder : ℤ → ℕ → ℕ
remainder (pos a) M = a % M
remainder (negsuc a) M = M - suc (a % M)

pub record Divides (M : ℕ) (a : ℤ) : Type 0 where
  pub quotient : ℤ
  pub exact : a ≡ pos M *ℤ quotient

pub record IsRemainder (M : ℕ) (a : ℤ) (r : ℕ) : Type 0 where
  pub below : r < M
  pub exact : Divides M (a -ℤ pos r)

abbrev pub Remainders : Type 0
Remainders = (a : ℤ) (M : ℕ) → 0 < M → IsRemainder M a (remainder a M)

unfoldable pub factorial : ℕ → ℕ
factorial zero = 1
factorial (suc n) = suc n * factorial n
