-- Transforming the front of a slice over the grid of given sizes: the grid, as the code has it, is what the passes in place ask for, and what
-- they leave of cells that were copied there is the transform of the cells.
use mathlib.Core.Bool.{Bool}
use mathlib.Core.Path.{◌≡◌, sym, ◌∙◌, ap, ap₂}
use mathlib.Core.List.{List, ◌++◌}
use Prim.Native.Nat.{ℕ, ◌^◌, ◌≤◌}
use native.Mathlib.Omega.{arith}
use lib.ListN.{length, take, drop}
use lib.Seq.{take_at, drop_at, length-take-le}
use Rattle.grid.specs.Grid.{axes_of, grid_size, grid_of}
use Rattle.grid.specs.declared.Grid.{Grid}
use Rattle.grid.proofs.Grids.{grid-size, grid-axes, grid-least}
use Rattle.places.specs.Places.{size}
use Rattle.sizes.specs.Sizes.{max_inputs, Sound}
use Rattle.sizes.specs.declared.Sizes.{Sizes}
use Rattle.slices.specs.Slices.{overwritten}
use Rattle.transform.specs.Grid.{Lent}
use Rattle.transform.specs.Transform.{transform_of}

module _ (z : Sizes) (w : length z.widths ≡ max_inputs) (s : Sound z) (g : Grid) (e : g ≡ grid_of z) where
  pub lent : (n : ℕ) → grid_size z ≤ n → Lent g.axes z.d g.size z.m n
  unfolding grid_size
  lent n h =
      let G = grid-size z g e in
      record {
        grid = record { inputs = s.1; some = omega (arith, grid-least z s); counted = ap size (grid-axes z g e w s.1) ∙ sym G };
        room = omega arith;
        bits = s.0.1;
      }

  pub in_place :
      (sum : Bool) (cells before copied after : List ℕ) →
      grid_size z ≤ length cells → copied ≡ overwritten g.size cells before →
      after ≡ transform_of sum (2 ^ z.m) (take z.d g.axes) (take g.size copied) ++ drop g.size copied →
      after ≡ transform_of sum (2 ^ z.m) (axes_of z) (take (grid_size z) cells) ++ drop (grid_size z) before
  in_place sum cells before copied after h c o =
      let G = grid-size z g e in
      let front = length-take-le g.size cells (omega arith) in
      o
      ∙ ap₂ ◌++◌
      (ap₂ (transform_of sum (2 ^ z.m)) (grid-axes z g e w s.1)
      (ap (take g.size) c ∙ take_at (take g.size cells) _ g.size front ∙ ap (λ n. take n cells) G))
      (ap (drop g.size) c ∙ drop_at (take g.size cells) _ g.size front ∙ ap (λ n. drop n before) G)
