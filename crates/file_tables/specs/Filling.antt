-- Filling a table slice for an accepted file s: first with the outputs over the grid, then with their difference table. At entry the scratch
-- slice is w and the table slice t; at exit they are w' and t'.
--   Filling s n axes lows d count w t   what filling with the outputs asks: the file is accepted and has n steps and d inputs; the first d axes and
--                                  the words lows are those of its grid, which has count vectors, at least one; the scratch slice has room for the
--                                  steps, and the table slice for the outputs
--   OutputsFilled s n count w t w' t'   what it promises:
--     table     the outputs at the vectors of the grid, in dictionary order, stand in the first entries; the others are untouched
--     scratch   past the first n entries nothing has changed
--   TableFilling s n z g w t   what filling with the table asks: the file is accepted; n, z and g are its count of steps, its sizes and its grid;
--                              the scratch slice has room for the steps, and the table slice for the cells
--   TableFilled s w t w' t'   what it promises:
--     table     the table stands in the first G entries; the others are untouched
--     scratch   the first N entries are zero; the others are untouched
use Rattle.std.specs.Prelude.{◌≡◌, List, ◌++◌, ℕ, ◌≤◌, ◌<◌, length, take, drop}
use Rattle.file.specs.Accepted.{Accepted}
use Rattle.fields.specs.File.{sizes_of, step_count}
use Rattle.grid.specs.Grid.{axes_of, grid_of, grid_size}
use Rattle.grid.specs.declared.Grid.{Grid}
use Rattle.sizes.specs.Padded.{padded}
use Rattle.sizes.specs.declared.Sizes.{Sizes}
use Rattle.slices.specs.Slices.{cleared, KeptPast}
use Rattle.vectors.specs.Vectors.{low_words}
use Rattle.file_tables.specs.FileTables.{table_of_file, grid_outputs}

pub record Filling (s : List ℕ) (n : ℕ) (axes lows : List ℕ) (d count : ℕ) (w t : List ℕ) : Type 0 where
  pub sound : Accepted s
  pub steps : n ≡ step_count s
  pub inputs : d ≡ (sizes_of s).d
  pub grid : take d axes ≡ axes_of (sizes_of s)
  pub lowest : lows ≡ padded (low_words (sizes_of s))
  pub some : 0 < count
  pub counted : count ≡ grid_size (sizes_of s)
  pub room : n ≤ length w
  pub table_room : count ≤ length t

pub record OutputsFilled (s : List ℕ) (n count : ℕ) (w t w' t' : List ℕ) : Type 0 where
  pub table : t' ≡ grid_outputs s ++ drop count t
  pub scratch : KeptPast n w w'

pub record TableFilling (s : List ℕ) (n : ℕ) (z : Sizes) (g : Grid) (w t : List ℕ) : Type 0 where
  pub sound : Accepted s
  pub steps : n ≡ step_count s
  pub sizes : z ≡ sizes_of s
  pub grid : g ≡ grid_of z
  pub room : n ≤ length w
  pub table_room : g.size ≤ length t

pub record TableFilled (s w t w' t' : List ℕ) : Type 0 where
  pub table : t' ≡ table_of_file s ++ drop (grid_size (sizes_of s)) t
  pub scratch : w' ≡ cleared (step_count s) w
