-- The quotients of L(m), by which the bound can be followed by hand (document 02, T-08). Proved in proofs/Quotients.
--   halvings n        n divided by 2, 4, 8, 16, 32 and 64, each rounded down
--   HalvingsPowers    they are the quotients by 2^1 to 2^6, in this order
--   Exponents m       what those of L(m) and of L(m) − 1 come to:
--     reached         those of L(m) add up to the exponent of two in L(m)!
--     enough          this is m or more
--     before          those of L(m) − 1 add up to the exponent of two in (L(m) − 1)!
--     short           this is less than m
--   BoundExponents    it is so for every m from 1 to 64
use Rattle.std.specs.Prelude.{List, [], ◌∷◌, ◌≡◌, ℕ, ◌-◌, ◌/◌, ◌≤◌, ◌<◌}
use Rattle.lists.specs.Lists.{sum_of}
use Rattle.integers.specs.Exponent.{IsExponent, quotients}
use Rattle.integers.specs.Modulo.{factorial}
use Rattle.bound.specs.Bound.{bound}

unfoldable pub halvings : ℕ → List ℕ
halvings n = n / 2 ∷ n / 4 ∷ n / 8 ∷ n / 16 ∷ n / 32 ∷ n / 64 ∷ []

abbrev pub HalvingsPowers : Type 0
HalvingsPowers = (n : ℕ) → halvings n ≡ quotients n 6

pub record Exponents (m : ℕ) : Type 0 where
  pub reached : IsExponent (factorial (bound m)) (sum_of (halvings (bound m)))
  pub enough : m ≤ sum_of (halvings (bound m))
  pub before : IsExponent (factorial (bound m - 1)) (sum_of (halvings (bound m - 1)))
  pub short : sum_of (halvings (bound m - 1)) < m

abbrev pub BoundExponents : Type 0
BoundExponents = (m : ℕ) → 1 ≤ m → m ≤ 64 → Exponents m
