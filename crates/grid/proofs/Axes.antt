-- The axes of a grid: none is above the largest bound, so as many as a file may have inputs give fewer than 2^64 vectors.
use mathlib.Core.List.{List, [], ◌∷◌}
use Prim.Native.Nat.{ℕ, zero, suc, ◌^◌, ◌≤◌, ◌<◌}
use native.Mathlib.Nat.{le_trans, le_refl, mul-le-mul, pow-succ', pow-le-pow_right, min-le_right, le-min, one-le-mul, one-le-pow}
use native.Mathlib.Omega.{arith}
use lib.Dec.{lit≤, lit<}
use lib.ListN.{length, get_or}
use Rattle.bound.specs.Axes.{axis, axes}
use Rattle.bound.specs.Bound.{bound, max_bound}
use Rattle.bound.proofs.Table.{bound-least, bound-most}
use Rattle.formats.specs.declared.Format.{Format}
use Rattle.places.specs.Places.{size}
use Rattle.sizes.specs.Sizes.{max_inputs}

module _ (m : ℕ) (low : 1 ≤ m) (high : m ≤ 64) where
  pub axis-most : (f : Format) → axis m f ≤ max_bound
  unfolding axis
  axis-most f = le_trans (min-le_right (2 ^ f.length) (bound m)) (bound-most m low high)

  -- so no axis of a grid is
  pub axes-most : (fs : List Format) (i : ℕ) → get_or (axes m fs) i 0 ≤ max_bound
  axes-most [] i = omega arith
  axes-most (f ∷ fs) zero = axis-most f
  axes-most (f ∷ fs) (suc i) = axes-most fs i

  axis-least : (f : Format) → 1 ≤ axis m f
  unfolding axis
  axis-least f = le-min (one-le-pow f.length 2 (lit< tt)) (bound-least m low high)

  -- the grid has a vector
  pub size-least : (fs : List Format) → 1 ≤ size (axes m fs)
  unfolding size
  size-least [] = lit≤ tt
  size-least (f ∷ fs) = one-le-mul (axis-least f) (size-least fs)

  pub size-most : (fs : List Format) → size (axes m fs) ≤ max_bound ^ length fs
  unfolding size
  size-most [] = lit≤ tt
  size-most (f ∷ fs) = rw (pow-succ' max_bound (length fs)) (mul-le-mul (axis-most f) (size-most fs))

-- as many axes as a file may have inputs give fewer than 2^64 vectors
pub size_fits : (m : ℕ) → 1 ≤ m → m ≤ 64 → (fs : List Format) → length fs ≤ max_inputs → size (axes m fs) < 2 ^ 64
size_fits m low high fs h =
    le_trans (omega (arith, le_trans (size-most m low high fs) (pow-le-pow_right (lit< tt) h))) (le_refl (2 ^ 64))
