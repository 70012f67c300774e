-- Which number making a table gives, and in which order it judges, as orders of numbers, with no test in them. Which calls are accepted is in
-- specs/Taken.
--   TableOrder s room len r   r is what the call is refused by:
--     file    the file is not accepted: by what it is refused by
--     steps   else, the scratch slice has fewer entries than the file has steps: by 12
--     cells   else, the table slice has fewer than G: by 13
--   TableInOrder              so making a table judges. Proved in proofs/Order
use Rattle.std.specs.Prelude.{List, ◌≡◌, ℕ, ◌≤◌, ◌<◌}
use Rattle.fields.specs.File.{sizes_of, step_count}
use Rattle.file.specs.Accepted.{Accepted}
use Rattle.file.specs.Check.{refusal_of}
use Rattle.grid.specs.Grid.{grid_size}
use Rattle.sizes.specs.Sizes.{refused_by}
use Rattle.sizes.specs.declared.Refusal.{Refusal}
use Rattle.file_tables.specs.FileTables.{table_refusal}

pub record TableOrder (s : List ℕ) (room len : ℕ) (r : Refusal) : Type 0 where
  pub file : ¬ Accepted s → r ≡ refusal_of 1 s
  pub steps : Accepted s → room < step_count s → r ≡ refused_by 12
  pub cells : Accepted s → step_count s ≤ room → len < grid_size (sizes_of s) → r ≡ refused_by 13

abbrev pub TableInOrder : Type 0
TableInOrder = (s : List ℕ) (room len : ℕ) → TableOrder s room len (table_refusal s room len)
