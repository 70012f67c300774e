-- Polynomials in one variable, in Newton–Horner form.
--   value p x        the value at x of the polynomial with the coefficients p: [] is 0, and c ∷ q is c + x·q(x − 1).
--                    So it is the sum of c_k times the falling factorial Y_k(x) = x(x − 1) .. (x − k + 1) (document 002, definition IV.2)
--   coefficient p k  c_k, and 0 past the end of the list
use Rattle.std.specs.Prelude.{List, [], ◌∷◌, ℕ, ℤ, pos, ◌+ℤ◌, ◌-ℤ◌, ◌*ℤ◌, get_or}

unfoldable pub value : List ℤ → ℤ → ℤ
value [] x = pos 0
value (c ∷ q) x = c +ℤ x *ℤ value q (x -ℤ pos 1)

unfoldable pub coefficient : List ℤ → ℕ → ℤ
coefficient p k = get_or p k (pos 0)
