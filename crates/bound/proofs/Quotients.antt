-- What the quotients of L(m) and of L(m) − 1 come to: by Legendre's rule they add up to exponents of two, as both numbers are below 128; and 2^m
-- divides the factorial of the first, and not of the second.
use mathlib.Core.Path.{refl}
use Prim.Native.Nat.{ℕ, ◌-◌, ◌<◌}
use native.Mathlib.Decide.{dec_lt}
use native.Mathlib.Omega.{arith}
use Rattle.lists.specs.Lists.{tabulate, sum_of}
use Rattle.integers.specs.Exponent.{IsExponent, quotients}
use Rattle.integers.specs.Modulo.{factorial}
use Rattle.integers.proofs.Exponent.{power_coarse}
use Rattle.integers.proofs.Legendre.{legendre}
use Rattle.bound.specs.Bound.{bound}
use Rattle.bound.specs.Quotients.{halvings, HalvingsPowers, BoundExponents}
use Rattle.bound.proofs.Algorithm.{least_bound}
use Rattle.bound.proofs.Table.{bound-least, bound-most}

pub halvings_powers : HalvingsPowers
unfolding halvings quotients tabulate
halvings_powers n = refl

-- below 128 they are all that are not 0
halvings-exponent : (n : ℕ) → n < 128 → IsExponent (factorial n) (sum_of (halvings n))
halvings-exponent n h = rw (halvings_powers n) (legendre n 6 h)

pub bound_exponents : BoundExponents
bound_exponents m low high =
    record { reached = reached; enough = reached.greatest m (least_bound m).divides; before = before; short = short }
  where
    reached : IsExponent (factorial (bound m)) (sum_of (halvings (bound m)))
    reached = halvings-exponent (bound m) (omega (arith, bound-most m low high))

    before : IsExponent (factorial (bound m - 1)) (sum_of (halvings (bound m - 1)))
    before = halvings-exponent (bound m - 1) (omega (arith, bound-most m low high))

    short : sum_of (halvings (bound m - 1)) < m
    short =
        elim (dec_lt (sum_of (halvings (bound m - 1))) m) [
          | yes l ↦ l
          | no n ↦ absurd (omega
              (arith, bound-least m low high, (least_bound m).least (bound m - 1) (power_coarse _ m _ (omega arith) before.divides)))
        ]
