-- Demand 2, as claims about the calls: summing the table of a file returns its outputs on the grid, and differencing those returns the
-- table. Each is proved in proofs/, under the same name with a small first letter.
--   SumOfMade         a table that was made of a file is taken by summing, and gives the file's outputs at every vector of the grid, in order
--   DifferenceOfSum   the outputs that any accepted table gives are taken by differencing, and give the table
--   SumOfDifference   the table that any accepted outputs give is taken by summing, and gives the outputs
use Rattle.std.specs.Prelude.{◌≡◌, List, ◌++◌, ℕ, ◌≤◌, length, take, drop}
use Rattle.cells.specs.Cells.{cells_refusal}
use Rattle.fields.specs.File.{sizes_of}
use Rattle.file_tables.specs.FileTables.{grid_outputs, table_refusal, made_table}
use Rattle.grid.specs.Grid.{grid_size}
use Rattle.sizes.specs.Sizes.{accepted}
use Rattle.sizes.specs.declared.Sizes.{Sizes}
use Rattle.tables.specs.Tables.{differenced, summed_up}

-- the first G entries of a slice are the list w, and the others are those of the slice as it was lent
abbrev pub HoldsCells : Sizes → List ℕ → List ℕ → List ℕ → Type 0
HoldsCells z w lent slice = slice ≡ w ++ drop (grid_size z) lent

abbrev pub SumOfMade : Type 0
SumOfMade =
    (s : List ℕ) (room : ℕ) (table outputs : List ℕ) →
    table_refusal s room (length table) ≡ accepted → grid_size (sizes_of s) ≤ length outputs →
    let z = sizes_of s in
    let made = made_table s room table in
    (cells_refusal z made (length outputs) ≡ accepted) ×
    HoldsCells z (grid_outputs s) outputs (summed_up z made outputs)

abbrev pub DifferenceOfSum : Type 0
DifferenceOfSum =
    (z : Sizes) (table outputs again : List ℕ) →
    cells_refusal z table (length outputs) ≡ accepted → grid_size z ≤ length again →
    let sums = summed_up z table outputs in
    (cells_refusal z sums (length again) ≡ accepted) ×
    HoldsCells z (take (grid_size z) table) again (differenced z sums again)

abbrev pub SumOfDifference : Type 0
SumOfDifference =
    (z : Sizes) (outputs table again : List ℕ) →
    cells_refusal z outputs (length table) ≡ accepted → grid_size z ≤ length again →
    let cells = differenced z outputs table in
    (cells_refusal z cells (length again) ≡ accepted) ×
    HoldsCells z (take (grid_size z) outputs) again (summed_up z cells again)
