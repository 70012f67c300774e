-- The difference table of a file (document 01, 'Output, grid and order' and 'Refused because of the input'). G is the size of the grid.
--   table_refusal s room len   what making a table answers, with room scratch entries and len table entries: the file's refusal, 12, 13
--   table_of_file s             the difference table of the exact values of the file s, over its grid: differences are taken at the lowest values
--   grid_outputs s             the outputs of the file s at every vector of its grid, in order
--   made_table s room table    the table slice after the call: its first G entries are the table, and the others are untouched
--   table_scratch s scratch len   the scratch slice after the call: its first N entries are zero, and the others are untouched
--   TableMade s w t r w' t'   what making a table promises, with the scratch slice w and the table slice t at entry, w' and t' at exit:
--     answer    it refuses by the refusal, or is done
--     table     the table slice, which a refused call leaves untouched
--     scratch   the scratch slice, which a refused call leaves untouched
use Rattle.std.specs.Prelude.{cond, Result, ⊤, List, ◌++◌, ◌≡◌, ℕ, ◌^◌, eqb, length, drop}
use Rattle.cells.specs.Cells.{short_slice}
use Rattle.differences.specs.Table.{table_at}
use Rattle.evaluate.specs.Evaluate.{output_of, short_scratch}
use Rattle.file.specs.Check.{file_number, refusal_of}
use Rattle.fields.specs.File.{sizes_of, step_count}
use Rattle.fields.specs.Steps.{steps_of}
use Rattle.grid.specs.Grid.{axes_of, lows_of, grid_size, grid_vector}
use Rattle.lists.specs.Lists.{tabulate}
use Rattle.sizes.specs.Answered.{answered}
use Rattle.sizes.specs.Sizes.{refused_by, accepted, accepts}
use Rattle.sizes.specs.declared.Refusal.{Refusal}
use Rattle.slices.specs.Slices.{cleared}
use Rattle.datapath.specs.Steps.{exact}

unfoldable pub table_refusal : List ℕ → ℕ → ℕ → Refusal
table_refusal s room len =
    cond (eqb (file_number s) 0)
    (cond (short_scratch (step_count s) room) (refused_by 12)
    (cond (short_slice (grid_size (sizes_of s)) len) (refused_by 13) accepted))
    (refusal_of 1 s)

unfoldable pub table_of_file : List ℕ → List ℕ
table_of_file s = table_at (2 ^ (sizes_of s).m) (lows_of (sizes_of s)) (axes_of (sizes_of s)) (exact (steps_of s))

unfoldable pub grid_outputs : List ℕ → List ℕ
grid_outputs s = tabulate (λ (p : ℕ). output_of s (grid_vector (sizes_of s) p)) 0 (grid_size (sizes_of s))

unfoldable pub made_table : List ℕ → ℕ → List ℕ → List ℕ
made_table s room table =
    cond (accepts (table_refusal s room (length table)))
    (table_of_file s ++ drop (grid_size (sizes_of s)) table) table

unfoldable pub table_scratch : List ℕ → List ℕ → ℕ → List ℕ
table_scratch s scratch len =
    cond (accepts (table_refusal s (length scratch) len)) (cleared (step_count s) scratch) scratch

pub record TableMade (s w t : List ℕ) (r : Result ⊤ Refusal) (w' t' : List ℕ) : Type 0 where
  pub answer : r ≡ answered (table_refusal s (length w) (length t)) tt
  pub table : t' ≡ made_table s (length w) t
  pub scratch : w' ≡ table_scratch s w (length t)
