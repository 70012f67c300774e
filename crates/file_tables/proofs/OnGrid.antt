-- A file's outputs are those at the vectors of its grid, and the first cell of its table is the one at the lowest values.
-- Assumes nothing.
use mathlib.Core.Path.{◌≡◌, ◌∙◌, ap}
use mathlib.Core.List.{List}
use Prim.Native.Nat.{ℕ, ◌^◌, ◌<◌}
use native.Mathlib.Nat.{zero-add}
use lib.ListN.{get_or}
use Rattle.datapath.specs.Steps.{exact, output}
use Rattle.differences.proofs.Lowest.{first_cell}
use Rattle.evaluate.specs.Evaluate.{output_of}
use Rattle.fields.specs.File.{sizes_of}
use Rattle.fields.specs.Steps.{steps_of}
use Rattle.file.specs.Accepted.{Accepted}
use Rattle.file.proofs.Sound.{file-sound}
use Rattle.grid.specs.Grid.{axes_of, lows_of, grid_size, grid_vector}
use Rattle.grid.proofs.Grids.{grid-least, length-lows}
use Rattle.lists.proofs.Tabulate.{get_d_tabulate}
use Rattle.places.proofs.Vectors.{vectors}
use Rattle.file_tables.specs.FileTables.{table_of_file, grid_outputs}
use Rattle.file_tables.specs.OnGrid.{EachAtLowest}

output-entry : (s : List ℕ) (p : ℕ) → p < grid_size (sizes_of s) → get_or (grid_outputs s) p 0 ≡ output_of s (grid_vector (sizes_of s) p)
unfolding grid_outputs
output-entry s p h =
    let at : ℕ → ℕ = λ (q : ℕ). output_of s (grid_vector (sizes_of s) q) in
    get_d_tabulate at 0 (grid_size (sizes_of s)) 0 p h ∙ ap at (zero-add p)

first_cell_of_file : (s : List ℕ) → Accepted s → get_or (table_of_file s) 0 0 ≡ output_of s (lows_of (sizes_of s))
unfolding table_of_file output_of output grid_size
first_cell_of_file s a =
    let z = sizes_of s in
    first_cell (2 ^ z.m) (lows_of z) (axes_of z) (exact (steps_of s)) (length-lows z) (grid-least z (file-sound s a))

pub each_at_lowest : EachAtLowest
unfolding lows_of axes_of grid_size grid_vector
each_at_lowest s a =
    let z = sizes_of s in
    record {
      outputs = λ p h. output-entry s p h;
      each = λ x o.
          let f = (vectors (lows_of z) (axes_of z) (length-lows z)).found x o in
          (f.0, f.1, output-entry s f.0 f.1 ∙ ap (output_of s) f.2);
      first = first_cell_of_file s a;
    }
