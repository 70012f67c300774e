-- Arithmetic on the coefficients of polynomials in Newton–Horner form, without division and without binomials.
--   add p q      the sum
--   scale k p    k times p
--   shift p      x ↦ p(x + 1)
--   sub p q      the difference
--   mul p q      the product
--   delta p      the forward difference x ↦ p(x + 1) − p(x)
use Rattle.std.specs.Prelude.{List, [], ◌∷◌, ℤ, pos, negsuc, ◌+ℤ◌, ◌*ℤ◌}

unfoldable pub add : List ℤ → List ℤ → List ℤ
add [] r = r
add (c ∷ q) [] = c ∷ q
add (c ∷ q) (d ∷ r) = (c +ℤ d) ∷ add q r

unfoldable pub scale : ℤ → List ℤ → List ℤ
scale k [] = []
scale k (c ∷ q) = (k *ℤ c) ∷ scale k q

unfoldable pub shift : List ℤ → List ℤ
shift [] = []
shift (c ∷ q) = add (c ∷ shift q) q

unfoldable pub sub : List ℤ → List ℤ → List ℤ
sub p q = add p (scale (negsuc 0) q)

unfoldable pub mul : List ℤ → List ℤ → List ℤ
mul [] r = []
mul (c ∷ q) r = add (scale c r) (pos 0 ∷ mul q (shift r))

unfoldable pub delta : List ℤ → List ℤ
delta [] = []
delta (c ∷ q) = add q (pos 0 ∷ delta q)
