-- The grid of given sizes (document 01, 'Output, grid and order').
--   axes_of z      u_1 to u_d
--   lows_of z      the lowest values of the d inputs
--   grid_size z    G, the product of the axes
--   grid_vector z p   the vector at place p: of each input one of the u values from its lowest up, in dictionary order
--   grid_of z      the axes, with 0 past the last input, and G
--   GridFits      of sizes that 2, 3 and 5 accept, the grid has a vector and G fits 64 bits. Proved in proofs/Grids:
--     least       G is 1 or more
--     most        G is at most the largest bound to the power d
--     fits        so it is below 2^64, with any count of inputs that a file may have
--     widest      since the largest bound to the power max_inputs is below 2^64
--     no_wider    and no longer with one input more
use Rattle.std.specs.Prelude.{List, ℕ, ◌+◌, ◌^◌, ◌≤◌, ◌<◌, ℤ}
use Rattle.bound.specs.Axes.{lows, axes}
use Rattle.bound.specs.Bound.{max_bound}
use Rattle.places.specs.Places.{size}
use Rattle.places.specs.Vectors.{vector_at}
use Rattle.sizes.specs.Padded.{padded}
use Rattle.sizes.specs.Sizes.{max_inputs, formats_of, Ruled}
use Rattle.sizes.specs.declared.Sizes.{Sizes}
use Rattle.grid.specs.declared.Grid.{Grid}

unfoldable pub axes_of : Sizes → List ℕ
axes_of z = axes z.m (formats_of z)

unfoldable pub lows_of : Sizes → List ℤ
lows_of z = lows (formats_of z)

unfoldable pub grid_size : Sizes → ℕ
grid_size z = size (axes_of z)

unfoldable pub grid_vector : Sizes → ℕ → List ℤ
grid_vector z p = vector_at (lows_of z) (axes_of z) p

unfoldable pub grid_of : Sizes → Grid
grid_of z = record { axes = padded (axes_of z); size = grid_size z }

pub record GridFits : Type 0 where
  pub least : (z : Sizes) → Ruled z → 1 ≤ grid_size z
  pub most : (z : Sizes) → Ruled z → grid_size z ≤ max_bound ^ z.d
  pub fits : (z : Sizes) → Ruled z → grid_size z < 2 ^ 64
  pub widest : max_bound ^ max_inputs < 2 ^ 64
  pub no_wider : 2 ^ 64 ≤ max_bound ^ (max_inputs + 1)
