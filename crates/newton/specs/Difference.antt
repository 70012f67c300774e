-- Forward differences of a function on the natural numbers (document 002, definition IV.1).
--   difference f        x ↦ f(x + 1) − f(x)
--   differences k f     the difference applied k times
use Rattle.std.specs.Prelude.{ℕ, zero, suc, ℤ, ◌-ℤ◌}

unfoldable pub difference : (ℕ → ℤ) → ℕ → ℤ
difference f x = f (suc x) -ℤ f x

unfoldable pub differences : ℕ → (ℕ → ℤ) → ℕ → ℤ
differences zero f = f
differences (suc k) f = differences k (difference f)
