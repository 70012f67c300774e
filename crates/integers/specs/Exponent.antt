-- The exponent of two in a number, and Legendre's rule for that of a factorial.
--   IsExponent n e   e is the exponent of two in n:
--     divides        2^e divides n
--     greatest       and it is the greatest number of which this holds
--   quotients n k    n divided by 2, 4, 8 and so on up to 2^k, each rounded down
--   Legendre         for every n, and every k with n below 2^(k + 1): these quotients add up to the exponent of two in n!. Proved in
--                    proofs/Legendre
use Rattle.std.specs.Prelude.{List, ◌≡◌, ℕ, ◌+◌, ◌/◌, ◌%◌, ◌^◌, ◌≤◌, ◌<◌}
use Rattle.lists.specs.Lists.{tabulate, sum_of}
use Rattle.integers.specs.Modulo.{factorial}

pub record IsExponent (n e : ℕ) : Type 0 where
  pub divides : n % 2 ^ e ≡ 0
  pub greatest : (k : ℕ) → n % 2 ^ k ≡ 0 → k ≤ e

unfoldable pub quotients : ℕ → ℕ → List ℕ
quotients n k = tabulate (λ i. n / 2 ^ i) 1 k

abbrev pub Legendre : Type 0
Legendre = (n k : ℕ) → n < 2 ^ (k + 1) → IsExponent (factorial n) (sum_of (quotients n k))
