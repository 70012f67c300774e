-- The bound L(m) (document 01, 'Output, grid and order'; document 002, SF, and algorithm 1 of its appendix).
--   IsBound m n    n is the least natural number whose factorial is divisible by 2^m
--   log2 n         the logarithm of n to base 2, rounded down: the first v with n below 2^(v + 1)
--   LogTwo         so, for n of 1 or more: 2 to the power log2 n is at most n, and the next power of 2 is above n. Proved in proofs/Computed
--   greedy v rem   what algorithm 1 adds to n from ν = v and rem on: the quotient of rem by 2^v − 1, and with the remainder and the next lower ν so on
--   bound m        L(m), by algorithm 1: from ν = log2 (1 + m) and rem = m on, m + n
--   AsPrinted      the lines of algorithm 1 that these leave out change nothing. Proved in proofs/Computed:
--     small        for m up to 2, which has a line of its own there, the loop gives 2m too
--     turn         where ν is 1 or more, greedy is one turn of the loop, and then the loop from the next lower ν on
--     ended        a remainder of 0, at which the loop stops, adds no more
--   bounds         L(1) to L(64), as a table
--   max_bound       the largest of them, L(64)
--   LargestBound   it is, and no other bound is above it. Proved in proofs/Table
--   LeastBound     for every m, algorithm 1 gives the least number whose factorial is divisible by 2^m. Proved in proofs/Algorithm
--   SameBound      what algorithm 1 gives, the least number and the table are one. Proved in proofs/Table, for the table by one test over it:
--     only         no number but L(m) is least
--     listed       for m from 1 to 64 the entry of m in the table is L(m)
--     count        the table has 64 entries
use Rattle.std.specs.Prelude.{◌≡◌, List, [], ◌∷◌, ℕ, zero, suc, ◌+◌, ◌-◌, ◌*◌, ◌/◌, ◌%◌, ◌^◌, ◌≤◌, ◌<◌, ltb, length, get_or}
use Rattle.integers.specs.Modulo.{factorial}
use Rattle.ranges.specs.Search.{first}

pub record IsBound (m n : ℕ) : Type 0 where
  pub divides : factorial n % 2 ^ m ≡ 0
  pub least : (k : ℕ) → factorial k % 2 ^ m ≡ 0 → n ≤ k

unfoldable pub log2 : ℕ → ℕ
log2 n = first (λ v. ltb n (2 ^ (v + 1))) 0 n

abbrev pub LogTwo : Type 0
LogTwo = (n : ℕ) → 1 ≤ n → (2 ^ log2 n ≤ n) × (n < 2 ^ (log2 n + 1))

unfoldable pub greedy : ℕ → ℕ → ℕ
greedy zero rem = 0
greedy (suc v) rem = rem / (2 ^ suc v - 1) + greedy v (rem % (2 ^ suc v - 1))

unfoldable pub bound : ℕ → ℕ
bound m = m + greedy (log2 (1 + m)) m

pub record AsPrinted : Type 0 where
  pub small : (m : ℕ) → m ≤ 2 → bound m ≡ 2 * m
  pub turn : (v rem : ℕ) → 1 ≤ v → greedy v rem ≡ rem / (2 ^ v - 1) + greedy (v - 1) (rem % (2 ^ v - 1))
  pub ended : (v : ℕ) → greedy v 0 ≡ 0

unfoldable pub bounds : List ℕ
bounds =
    2 ∷ 4 ∷ 4 ∷ 6 ∷ 8 ∷ 8 ∷ 8 ∷ 10 ∷ 12 ∷ 12 ∷ 14 ∷ 16 ∷ 16 ∷ 16 ∷ 16 ∷ 18 ∷
    20 ∷ 20 ∷ 22 ∷ 24 ∷ 24 ∷ 24 ∷ 26 ∷ 28 ∷ 28 ∷ 30 ∷ 32 ∷ 32 ∷ 32 ∷ 32 ∷ 32 ∷ 34 ∷
    36 ∷ 36 ∷ 38 ∷ 40 ∷ 40 ∷ 40 ∷ 42 ∷ 44 ∷ 44 ∷ 46 ∷ 48 ∷ 48 ∷ 48 ∷ 48 ∷ 50 ∷ 52 ∷
    52 ∷ 54 ∷ 56 ∷ 56 ∷ 56 ∷ 58 ∷ 60 ∷ 60 ∷ 62 ∷ 64 ∷ 64 ∷ 64 ∷ 64 ∷ 64 ∷ 64 ∷ 66 ∷ []

abbrev pub max_bound : ℕ
max_bound = 66

abbrev pub LargestBound : Type 0
LargestBound = (max_bound ≡ bound 64) × ((m : ℕ) → 1 ≤ m → m ≤ 64 → bound m ≤ max_bound)

abbrev pub LeastBound : Type 0
LeastBound = (m : ℕ) → IsBound m (bound m)

pub record SameBound : Type 0 where
  pub only : (m n : ℕ) → IsBound m n → n ≡ bound m
  pub listed : (m : ℕ) → 1 ≤ m → m ≤ 64 → get_or bounds (m - 1) 0 ≡ bound m
  pub count : length bounds ≡ 64
