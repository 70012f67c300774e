-- Every entry of the table is its bound. One test over the whole table: 2^m divides L! and not (L − 1)!. So L is the least number; and since
-- there is one alone, it is what algorithm 1 gives. A second test: every entry is from 1 to 66.
use mathlib.Core.Path.{◌≡◌, refl, sym, ap}
use mathlib.Core.Bool.{Bool, true, not, ◌&&◌, and-eq-true_iff}
use Prim.Native.Nat.{ℕ, ◌-◌, ◌%◌, ◌^◌, ◌≤◌, min}
use native.Mathlib.Nat.{le_antisymm}
use native.Mathlib.Omega.{arith}
use borrow.Author.Tests.{leb-true, eqb-true, eqb-false, not-true}
use lib.Dec.{leb, eqb, lit≤}
use lib.ListN.{get_or}
use Rattle.integers.specs.Modulo.{factorial}
use Rattle.ranges.specs.Search.{every}
use Rattle.ranges.proofs.Search.{every-at}
use Rattle.bound.specs.Axes.{axis, AxisByLeast}
use Rattle.bound.specs.Bound.{IsBound, bounds, bound, max_bound, LargestBound, SameBound}
use Rattle.bound.proofs.Algorithm.{bound_neighbour, least_bound}

-- the table's entry of m
abbrev entry : ℕ → ℕ
entry m = get_or bounds (m - 1) 0

-- the least number is one alone
bound-only : (m n : ℕ) → IsBound m n → n ≡ bound m
bound-only m n p =
    let b = least_bound m in
    le_antisymm (p.least (bound m) b.divides) (b.least n p.divides)

-- 2^m divides L! and not (L − 1)!, where L is the entry of m
right : ℕ → Bool
right m =
    eqb (factorial (entry m) % 2 ^ m) 0 && not (eqb (factorial (entry m - 1) % 2 ^ m) 0)

all_right : every right 1 64 ≡ true
unfolding every right bounds factorial
all_right = refl

-- it is from 1 to the largest bound
between : ℕ → Bool
between m = leb 1 (entry m) && leb (entry m) max_bound

all-between : every between 1 64 ≡ true
unfolding every between bounds
all-between = refl

module _ (m : ℕ) (low : 1 ≤ m) (high : m ≤ 64) where
  at : (f : ℕ → Bool) → every f 1 64 ≡ true → f m ≡ true
  at f all = every-at f 1 64 m all low (omega arith)

  range : (leb 1 (entry m) ≡ true) × (leb (entry m) max_bound ≡ true)
  unfolding between
  range = (and-eq-true_iff _ _).0 (at between all-between)

  tests : (eqb (factorial (entry m) % 2 ^ m) 0 ≡ true) × (not (eqb (factorial (entry m - 1) % 2 ^ m) 0) ≡ true)
  unfolding right
  tests = (and-eq-true_iff _ _).0 (at right all_right)

  whole : factorial (entry m) % 2 ^ m ≡ 0
  whole = eqb-true _ _ tests.0

  short : factorial (entry m - 1) % 2 ^ m ≡ 0 → ⊥
  short = eqb-false _ _ (not-true _ tests.1)

  -- so the entry of m is its bound
  pub bound-entry : entry m ≡ bound m
  bound-entry = bound-only m (entry m) (bound_neighbour m (entry m) whole (λ _. short))

  pub bound-least : 1 ≤ bound m
  bound-least = rw (← bound-entry) (leb-true _ _ range.0)

  pub bound-most : bound m ≤ max_bound
  bound-most = rw (← bound-entry) (leb-true _ _ range.1)

pub largest_bound : LargestBound
unfolding bounds
largest_bound = (bound-entry 64 (lit≤ tt) (lit≤ tt), bound-most)

pub same_bound : SameBound
unfolding bounds
same_bound = record { only = bound-only; listed = bound-entry; count = refl }

pub axis_by_least : AxisByLeast
unfolding axis
axis_by_least m f l p = ap (min (2 ^ f.length)) (sym (bound-only m l p))
