-- The line of the grid of an accepted file is that of the sizes and the grid which are read of it. Assumes nothing.
use mathlib.Core.Path.{◌≡◌, refl, ap}
use mathlib.Core.List.{List}
use Prim.Native.Nat.{ℕ, ◌≤◌}
use native.Mathlib.Omega.{arith}
use lib.ListN.{length, take, length-take}
use Rattle.file.specs.Accepted.{Accepted}
use Rattle.fields.specs.File.{sizes_of}
use Rattle.grid.specs.Grid.{axes_of, grid_size, grid_of}
use Rattle.grid.specs.declared.Grid.{Grid}
use Rattle.grid.proofs.Grids.{grid-axes}
use Rattle.fields.proofs.Heads.{length-widths}
use Rattle.plan.proofs.Axes.{length-file-axes}
use Rattle.sizes.specs.declared.Sizes.{Sizes}
use Rattle.printed.specs.Lines.{grid_line}
use Rattle.printed.specs.Report.{grid_text}

module _ (s : List ℕ) (accepted : Accepted s) (z : Sizes) (g : Grid) (e : z ≡ sizes_of s) (q : g ≡ grid_of z) where
  axes-read : take z.d g.axes ≡ axes_of (sizes_of s)
  axes-read = rw (q, e) (grid-axes (sizes_of s) (grid_of (sizes_of s)) refl (length-widths s) accepted.inputs_high)

  size-read : g.size ≡ grid_size (sizes_of s)
  unfolding grid_of
  size-read = rw (q, e) refl

  pub grid-read : grid_text s ≡ grid_line (take z.d g.axes) g.size
  unfolding grid_text
  grid-read = rw (axes-read, size-read)

  pub axes-long : z.d ≤ length g.axes
  axes-long =
      omega (arith, length-take z.d g.axes, ap length axes-read, length-file-axes s accepted, ap (λ (w : Sizes). w.d) e)
