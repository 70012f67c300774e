-- Bounded search.
--   first f j k   the first of the k numbers from j on at which f is true; j + k where there is none
--   every f j k   f is true at each of the k numbers from j on
use Rattle.std.specs.Prelude.{Bool, true, cond, ◌&&◌, ℕ, zero, suc, ◌+◌}

unfoldable pub first : (ℕ → Bool) → ℕ → ℕ → ℕ
first f j zero = j
first f j (suc k) =
    let later = first f (j + 1) k in
    cond (f j) j later

unfoldable pub every : (ℕ → Bool) → ℕ → ℕ → Bool
every f j zero = true
every f j (suc k) = f j && every f (j + 1) k
