-- The axes of the grid (document 01, 'Output, grid and order').
--   axis m f      the smaller of 2^n and L(m): on the grid an input of this format takes as many values, from its lowest up
--   lows fs       the lowest values of the inputs fs
--   axes m fs     their axes
--   AxisByLeast   the axis of word length n is the smaller of 2^n and the least number whose factorial is divisible by 2^m, whatever way that
--                 is found. Proved in proofs/Table
use Rattle.std.specs.Prelude.{List, map, ◌≡◌, ℕ, ◌^◌, min, ℤ}
use Rattle.bound.specs.Bound.{IsBound, bound}
use Rattle.formats.specs.Formats.{lowest}
use Rattle.formats.specs.declared.Format.{Format}

unfoldable pub axis : ℕ → Format → ℕ
axis m f = min (2 ^ f.length) (bound m)

abbrev pub lows : List Format → List ℤ
lows fs = map lowest fs

abbrev pub axes : ℕ → List Format → List ℕ
axes m fs = map (axis m) fs

abbrev pub AxisByLeast : Type 0
AxisByLeast = (m : ℕ) (f : Format) (l : ℕ) → IsBound m l → axis m f ≡ min (2 ^ f.length) l
