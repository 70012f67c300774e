-- At which vectors a file's outputs and differences are taken. Of each input the grid has the values from its lowest up.
--   AtLowestValues s   of an accepted file s:
--     outputs   entry p of its outputs over the grid is the output at the vector whose values are the digits of place p, counted from the lowest
--     each      every vector on the axes is at one of these places
--     first     the first cell of its table is the output at the vector of the lowest values
--   EachAtLowest       so it is of every accepted file. Proved in proofs/OnGrid
use Rattle.std.specs.Prelude.{◌≡◌, List, map, ℕ, ◌<◌, ℤ, get_or}
use Rattle.bound.specs.Axes.{axes}
use Rattle.evaluate.specs.Evaluate.{output_of}
use Rattle.fields.specs.File.{sizes_of}
use Rattle.file.specs.Accepted.{Accepted}
use Rattle.formats.specs.Formats.{lowest}
use Rattle.grid.specs.Grid.{grid_size}
use Rattle.places.specs.Vectors.{vector_at, OnAxes}
use Rattle.sizes.specs.Sizes.{formats_of}
use Rattle.file_tables.specs.FileTables.{table_of_file, grid_outputs}

pub record AtLowestValues (s : List ℕ) : Type 0 where
  pub outputs :
      let fs = formats_of (sizes_of s) in
      (p : ℕ) → p < grid_size (sizes_of s) → get_or (grid_outputs s) p 0 ≡ output_of s (vector_at (map lowest fs) (axes (sizes_of s).m fs) p)
  pub each :
      let fs = formats_of (sizes_of s) in
      (x : List ℤ) → OnAxes (map lowest fs) (axes (sizes_of s).m fs) x →
      (p : ℕ) × (p < grid_size (sizes_of s)) × (get_or (grid_outputs s) p 0 ≡ output_of s x)
  pub first : get_or (table_of_file s) 0 0 ≡ output_of s (map lowest (formats_of (sizes_of s)))

abbrev pub EachAtLowest : Type 0
EachAtLowest = (s : List ℕ) → Accepted s → AtLowestValues s
