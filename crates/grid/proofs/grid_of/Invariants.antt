-- `grid::grid_of` meets its contract. The loop's invariant: the first i axes are in their place, and the size is their product. Assumes
-- nothing.
use mathlib.Core.Path.{◌≡◌}
use mathlib.Core.List.{List, map}
use Prim.Native.Nat.{ℕ}
use lib.ListN.{take}
use Rattle.bound.specs.Axes.{axis}
use Rattle.formats.specs.Bytes.{format_of}
use Rattle.grid.proofs.Filled.{Filled}
use Rattle.places.specs.Places as Places
use Rattle.places.specs.Places.{size}
use Rattle.grid.proofs.grid_of.Given as goal

-- the axis of an input, by its width byte
abbrev pub axis_of : ℕ → ℕ → ℕ
axis_of m b = axis m (format_of b)

-- i axes are in their place, and their product is the size
pub record Sized (m d : ℕ) (widths axes : List ℕ) (size i : ℕ) : Type 0 where
  pub front : Filled (axis_of m) d widths axes i
  pub sized : size ≡ Places.size (map (axis_of m) (take i widths))

abbrev pub invariant-loop-i : goal.invariant-loop-i
invariant-loop-i l = Sized l.z.m l.z.d l.z.widths l.axes l.size l.i
