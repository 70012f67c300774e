-- Of which files and slices a table is made, as orders of numbers, with no test in them.
--   TableTaken s room len   the file s is accepted, the scratch slice has an entry for each step, and the table slice one for each vector of the grid
--   TableExactly            making a table answers the number 0 exactly there. Proved in proofs/Taken
use Rattle.std.specs.Prelude.{List, ◌↔◌, ◌≡◌, ℕ, ◌≤◌}
use Rattle.fields.specs.File.{sizes_of, step_count}
use Rattle.file.specs.Accepted.{Accepted}
use Rattle.grid.specs.Grid.{grid_size}
use Rattle.file_tables.specs.FileTables.{table_refusal}

pub record TableTaken (s : List ℕ) (room len : ℕ) : Type 0 where
  pub file : Accepted s
  pub steps : step_count s ≤ room
  pub cells : grid_size (sizes_of s) ≤ len

abbrev pub TableExactly : Type 0
TableExactly = (s : List ℕ) (room len : ℕ) → ((table_refusal s room len).number ≡ 0) ↔ TableTaken s room len
