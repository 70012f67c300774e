-- What is claimed of polynomials in one variable. Each statement is proved in proofs/, under the same name with a small first letter.
--   NewtonCoefficients   the k-fold difference at 0 is k!·c_k
--   OneVariable          a polynomial that M divides at 0 .. L − 1, where M divides L!, is divisible by M at every natural number
--   ByDegree             so is one of degree at most g that M divides at 0 .. g
use Rattle.std.specs.Prelude.{◌≡◌, List, ℕ, suc, ◌<◌, ◌≤◌, ℤ, pos, ◌*ℤ◌, length}
use Rattle.integers.specs.Modulo.{Divides, factorial}
use Rattle.newton.specs.Difference.{differences}
use Rattle.newton.specs.Polynomial.{value, coefficient}

abbrev pub NewtonCoefficients : Type 0
NewtonCoefficients =
    (p : List ℤ) (k : ℕ) → differences k (λ (x : ℕ). value p (pos x)) 0 ≡ pos (factorial k) *ℤ coefficient p k

abbrev pub OneVariable : Type 0
OneVariable =
    (M L : ℕ) →
    Divides M (pos (factorial L)) →
    (p : List ℤ) →
    ((t : ℕ) → t < L → Divides M (value p (pos t))) →
    (x : ℕ) →
    Divides M (value p (pos x))

abbrev pub ByDegree : Type 0
ByDegree =
    (M g : ℕ) (p : List ℤ) →
    length p ≤ suc g →
    ((t : ℕ) → t ≤ g → Divides M (value p (pos t))) →
    (x : ℕ) →
    Divides M (value p (pos x))
