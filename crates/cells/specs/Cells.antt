-- What differencing and summing refuse (document 01, 'Refused because of the input'). G is the size of the grid.
--   short_slice g len           13, first part: a slice of len entries has fewer than g, the size of the grid
--   small_cell m cells p        cell p is below 2^m
--   large_cell m g cells        13, second part: one of the first g cells given is 2^m or more
--   bad_cells m g cells len     13 of a call that reads the cells and writes len entries
--   cells_refusal z cells len   what differencing or summing answers, with the cells to read and len entries to write: the sizes'
--                              refusal, 13
use Rattle.std.specs.Prelude.{Bool, not, cond, ◌||◌, List, ℕ, ◌^◌, ltb, length, get_or}
use Rattle.grid.specs.Grid.{grid_size}
use Rattle.ranges.specs.Search.{every}
use Rattle.sizes.specs.Sizes.{refused_by, accepted, accepts, sizes_refusal}
use Rattle.sizes.specs.declared.Refusal.{Refusal}
use Rattle.sizes.specs.declared.Sizes.{Sizes}

abbrev pub short_slice : ℕ → ℕ → Bool
short_slice g len = ltb len g

unfoldable pub small_cell : ℕ → List ℕ → ℕ → Bool
small_cell m cells p = ltb (get_or cells p 0) (2 ^ m)

unfoldable pub large_cell : ℕ → ℕ → List ℕ → Bool
large_cell m g cells = not (every (small_cell m cells) 0 g)

unfoldable pub bad_cells : ℕ → ℕ → List ℕ → ℕ → Bool
bad_cells m g cells len = short_slice g (length cells) || short_slice g len || large_cell m g cells

unfoldable pub cells_refusal : Sizes → List ℕ → ℕ → Refusal
cells_refusal z cells len =
    cond (accepts (sizes_refusal z))
    (cond (bad_cells z.m (grid_size z) cells len) (refused_by 13) accepted)
    (sizes_refusal z)
