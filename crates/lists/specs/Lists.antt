-- Lists by a function, and their sums.
--   tabulate f j n   the list of f at the n numbers from j on
--   sum_of ns         the sum of the numbers ns
use Rattle.std.specs.Prelude.{List, [], ◌∷◌, ℕ, zero, suc, ◌+◌}

unfoldable pub tabulate : {A : Type 0} → (ℕ → A) → ℕ → ℕ → List A
tabulate f j zero = []
tabulate f j (suc n) = f j ∷ tabulate f (j + 1) n

unfoldable pub sum_of : List ℕ → ℕ
sum_of [] = 0
sum_of (n ∷ ns) = n + sum_of ns
