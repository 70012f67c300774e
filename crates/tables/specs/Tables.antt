-- Differencing given outputs, and summing a table (document 01, 'Output, grid and order'). G is the size of the grid. Both read one slice and
-- write the first G entries of another.
--   differences_of z ys    the difference table of the outputs ys
--   sums_of z cells        the outputs that the table sums to
--   differenced, summed_up the slice that is written, after differencing and after summing
--   transformed sum       after summing, or else after differencing
--   CellsCall z cells sum before r after   what the call promises:
--     answer     it refuses by the refusal of the cells, or is done
--     result     the slice that is written, which a refused call leaves untouched
use Rattle.std.specs.Prelude.{Bool, cond, Result, ⊤, List, ◌++◌, ◌≡◌, ℕ, ◌^◌, length, take, drop}
use Rattle.cells.specs.Cells.{cells_refusal}
use Rattle.differences.specs.Table.{table_of, given, summed}
use Rattle.grid.specs.Grid.{axes_of, grid_size}
use Rattle.sizes.specs.Answered.{answered}
use Rattle.sizes.specs.Sizes.{accepts}
use Rattle.sizes.specs.declared.Refusal.{Refusal}
use Rattle.sizes.specs.declared.Sizes.{Sizes}

unfoldable pub differences_of : Sizes → List ℕ → List ℕ
differences_of z ys = table_of (2 ^ z.m) (axes_of z) (given (axes_of z) ys)

unfoldable pub sums_of : Sizes → List ℕ → List ℕ
sums_of z cells = summed (2 ^ z.m) (axes_of z) cells

unfoldable pub differenced : Sizes → List ℕ → List ℕ → List ℕ
differenced z outputs table =
    cond (accepts (cells_refusal z outputs (length table)))
    (differences_of z (take (grid_size z) outputs) ++ drop (grid_size z) table) table

unfoldable pub summed_up : Sizes → List ℕ → List ℕ → List ℕ
summed_up z table outputs =
    cond (accepts (cells_refusal z table (length outputs)))
    (sums_of z (take (grid_size z) table) ++ drop (grid_size z) outputs) outputs

abbrev pub transformed : Bool → Sizes → List ℕ → List ℕ → List ℕ
transformed sum z cells before = cond sum (summed_up z cells before) (differenced z cells before)

pub record CellsCall (z : Sizes) (cells : List ℕ) (sum : Bool) (before : List ℕ) (r : Result ⊤ Refusal) (after : List ℕ) : Type 0 where
  pub answer : r ≡ answered (cells_refusal z cells (length before)) tt
  pub result : after ≡ transformed sum z cells before
