-- The grid of given sizes, as the code has it: its size, its first d axes, and that it has a vector and fewer than 2^64. Assumes nothing.
use mathlib.Core.Path.{◌≡◌, ◌∙◌, ap}
use Prim.Native.Nat.{◌^◌, ◌≤◌, ◌<◌}
use native.Mathlib.Nat.{le_trans, pow-le-pow_right}
use native.Mathlib.Omega.{arith}
use lib.Dec.{lit<, lit≤}
use lib.ListN.{length, take, length-map, length-take}
use lib.Seq.{take_at, length-take-le}
use Rattle.bound.specs.Bound.{max_bound}
use Rattle.sizes.specs.Sizes.{max_inputs, formats_of, Sound}
use Rattle.sizes.specs.declared.Sizes.{Sizes}
use Rattle.sizes.proofs.Ruled.{ruled-sound}
use Rattle.grid.specs.Grid.{axes_of, lows_of, grid_size, grid_of, GridFits}
use Rattle.grid.specs.declared.Grid.{Grid}
use Rattle.grid.proofs.Axes.{size-least, size-most, size_fits}

-- there is an axis for each input
pub length-axes : (z : Sizes) → length z.widths ≡ max_inputs → z.d ≤ max_inputs → length (axes_of z) ≡ z.d
unfolding axes_of
length-axes z w h = rw (length-map, length-map) (length-take-le z.d z.widths (omega arith))

-- and a lowest value
pub length-lows : (z : Sizes) → length (lows_of z) ≡ length (axes_of z)
unfolding axes_of lows_of
length-lows z = simp length-map

module _ (z : Sizes) (g : Grid) (e : g ≡ grid_of z) where
  pub grid-size : g.size ≡ grid_size z
  unfolding grid_of
  grid-size = ap (λ (g : Grid). g.size) e

  pub grid-axes : length z.widths ≡ max_inputs → z.d ≤ max_inputs → take z.d g.axes ≡ axes_of z
  unfolding grid_of
  grid-axes w h = ap (λ (g : Grid). take z.d g.axes) e ∙ take_at (axes_of z) _ z.d (length-axes z w h)

pub length-axes-most : (z : Sizes) → length (axes_of z) ≤ z.d
unfolding axes_of
length-axes-most z = simp (length-map, length-take) (omega arith)

module _ (z : Sizes) (s : Sound z) where
  pub grid-least : 1 ≤ grid_size z
  unfolding grid_size axes_of
  grid-least = size-least z.m s.0.0 s.0.1 (formats_of z)

  grid-most : grid_size z ≤ max_bound ^ z.d
  unfolding grid_size axes_of
  grid-most =
      le_trans (size-most z.m s.0.0 s.0.1 (formats_of z))
      (pow-le-pow_right (lit< tt) (rw (length-map, length-take) (omega arith)))

  pub grid-fits : grid_size z < 2 ^ 64
  unfolding grid_size axes_of
  grid-fits = size_fits z.m s.0.0 s.0.1 (formats_of z) (rw (length-map, length-take) (omega (arith, s.1)))

pub grid_fits : GridFits
grid_fits =
    record {
      least = λ z r. grid-least z (ruled-sound z r);
      most = λ z r. grid-most z (ruled-sound z r);
      fits = λ z r. grid-fits z (ruled-sound z r);
      widest = lit< tt;
      no_wider = lit≤ tt;
    }
