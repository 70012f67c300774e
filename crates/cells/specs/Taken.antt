-- Which cells differencing and summing take, as orders of numbers, with no test in them. G is the size of the grid.
--   Fitting z cells len   both slices have G entries or more, and the first G that are read are below 2^m
--   CellsTaken z cells len   so are they, and the sizes keep their rules
--   CellsExactly          the calls answer the number 0 exactly there. Proved in proofs/Taken
use Rattle.std.specs.Prelude.{List, ◌↔◌, ◌≡◌, ℕ, ◌^◌, ◌≤◌, ◌<◌, length, get_or}
use Rattle.grid.specs.Grid.{grid_size}
use Rattle.sizes.specs.Sizes.{Ruled}
use Rattle.sizes.specs.declared.Sizes.{Sizes}
use Rattle.cells.specs.Cells.{cells_refusal}

pub record Fitting (z : Sizes) (cells : List ℕ) (len : ℕ) : Type 0 where
  pub read : grid_size z ≤ length cells
  pub written : grid_size z ≤ len
  pub small : (p : ℕ) → p < grid_size z → get_or cells p 0 < 2 ^ z.m

pub record CellsTaken (z : Sizes) (cells : List ℕ) (len : ℕ) : Type 0 where
  pub sizes : Ruled z
  pub fits : Fitting z cells len

abbrev pub CellsExactly : Type 0
CellsExactly = (z : Sizes) (cells : List ℕ) (len : ℕ) → ((cells_refusal z cells len).number ≡ 0) ↔ CellsTaken z cells len
