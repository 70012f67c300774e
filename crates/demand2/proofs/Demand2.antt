-- Demand 2, as specs/Demand2.antt states it. What a call writes are numbers below 2^m, one for each vector of the grid: so the next call takes
-- them, and gives back what was read, since differencing and summing undo one another.
use mathlib.Core.Path.{◌≡◌, ◌∙◌, ap}
use mathlib.Core.List.{List, ◌++◌}
use Prim.Native.Nat.{ℕ, ◌+◌, ◌^◌, ◌≤◌, ◌<◌}
use native.Mathlib.Nat.{mod-lt}
use native.Mathlib.Omega.{arith}
use lib.ListN.{length, take, drop, length-append, get_or-append}
use lib.Pow.{pow_pos}
use lib.Seq.{take_at, length-take-le, get_or-take}
use Rattle.cells.specs.Cells.{cells_refusal}
use Rattle.cells.specs.Taken.{Fitting}
use Rattle.cells.proofs.Answers.{cells-accepted, cells-taken}
use Rattle.differences.specs.Statement.{Cells}
use Rattle.differences.specs.Table.{difference_at, mixed_difference, listed, table_at, table_of, given, sum_below, summed}
use Rattle.lists.proofs.Tabulate.{length-tabulate, get_d_tabulate}
use Rattle.differences.proofs.Tables.{sum_of_differences, differences_of_sum}
use Rattle.fields.specs.File.{sizes_of}
use Rattle.fields.specs.Steps.{steps_of}
use Rattle.file.proofs.Accepted.{accepted as file-accepted}
use Rattle.file.proofs.Sound.{file-ruled}
use Rattle.file_tables.specs.FileTables.{table_of_file}
use Rattle.file_tables.proofs.Answers.{made, table-accepted}
use Rattle.file_tables.proofs.Files.{table_sums}
use Rattle.grid.specs.Grid.{axes_of, lows_of, grid_size}
use Rattle.integers.specs.Modulo.{remainder}
use Rattle.integers.proofs.Remainder.{remainder-most}
use Rattle.places.specs.Places.{size, digits_at}
use Rattle.sizes.specs.Sizes.{Ruled, accepted}
use Rattle.sizes.specs.declared.Sizes.{Sizes}
use Rattle.sizes.proofs.Judged.{number_of}
use Rattle.datapath.specs.Steps.{exact}
use Rattle.tables.specs.Tables.{differences_of, sums_of, differenced, summed_up}
use Rattle.tables.proofs.Answers.{differenced-accepted, summed-accepted}
use Rattle.demand2.specs.Demand2.{SumOfMade, DifferenceOfSum, SumOfDifference}

-- what is listed over the grid are cells, where it is below M
cells-listed : (M : ℕ) (us : List ℕ) (f : List ℕ → ℕ) → ((x : List ℕ) → f x < M) → Cells M us (listed us f)
cells-listed M us f l =
    record {
      full = length-tabulate (λ p. f (digits_at us p)) 0 (size us);
      small = λ p h. rw (get_d_tabulate (λ p. f (digits_at us p)) 0 (size us) 0 p h) (l (digits_at us (0 + p)));
    }

cells-table : (M : ℕ) → 0 < M → (us : List ℕ) (F : List ℕ → _) → Cells M us (table_of M us F)
unfolding table_of
cells-table M z us F = cells-listed M us (λ k. remainder (mixed_difference k F) M) (λ k. remainder-most (mixed_difference k F) M z)

cells-summed : (M : ℕ) → 0 < M → (us c : List ℕ) → Cells M us (summed M us c)
unfolding summed
cells-summed M z us c = cells-listed M us _ (λ x. mod-lt (sum_below us c x (size us)) z)

module _ (z : Sizes) where
  -- a number for each vector of the grid, below 2^m
  abbrev Given : List ℕ → Type 0
  Given w = Cells (2 ^ z.m) (axes_of z) w

  given-taken : (cells : List ℕ) (len : ℕ) → Fitting z cells len → Given (take (grid_size z) cells)
  unfolding grid_size
  given-taken cells len f =
      record {
        full = length-take-le (grid_size z) cells f.read;
        small = λ p h. rw (get_or-take (grid_size z) cells p 0 h) (f.small p h);
      }

  -- the sizes are in order, and a slice has the cells w in front, and another has room
  module _
      (r : Ruled z) (w rest again : List ℕ) (g : Given w) (h : grid_size z ≤ length again)
    where
      front : Fitting z (w ++ rest) (length again)
      unfolding grid_size
      front =
          record {
            read = rw length-append (omega (arith, g.full));
            written = h;
            small = λ p l. rw (get_or-append w rest 0 p (omega (arith, g.full))) (g.small p l);
          }

      taken : take (grid_size z) (w ++ rest) ≡ w
      unfolding grid_size
      taken = take_at w rest (grid_size z) g.full

      next : cells_refusal z (w ++ rest) (length again) ≡ accepted
      next = cells-accepted z (w ++ rest) (length again) (record { sizes = r; fits = front })

      next-sum : summed_up z (w ++ rest) again ≡ sums_of z w ++ drop (grid_size z) again
      next-sum = summed-accepted z (w ++ rest) again (number_of next) ∙ ap (λ l. sums_of z l ++ drop (grid_size z) again) taken

      next-difference : differenced z (w ++ rest) again ≡ differences_of z w ++ drop (grid_size z) again
      next-difference = differenced-accepted z (w ++ rest) again (number_of next) ∙ ap (λ l. differences_of z l ++ drop (grid_size z) again) taken

pub sum_of_made : SumOfMade
unfolding table_of_file table_at
sum_of_made s room table outputs e h =
    let z = sizes_of s in
    let M = 2 ^ z.m in
    let m = made s room (length table) (number_of e) in
    let ruled = file-ruled s (file-accepted s m.sound) in
    let rest = drop (grid_size z) table in
    let g = cells-listed M (axes_of z) (λ k. remainder (difference_at (lows_of z) k (exact (steps_of s))) M) (λ k. remainder-most _ M (pow_pos z.m)) in
    rw (table-accepted s room table (number_of e)) (
      next z ruled (table_of_file s) rest outputs g h,
      next-sum z ruled (table_of_file s) rest outputs g h
          ∙ ap (λ l. l ++ drop (grid_size z) outputs) (table_sums s),
    )

pub difference_of_sum : DifferenceOfSum
unfolding sums_of differences_of
difference_of_sum z table outputs again e h =
    let M = 2 ^ z.m in
    let p = cells-taken z table (length outputs) (number_of e) in
    let c = take (grid_size z) table in
    let rest = drop (grid_size z) outputs in
    let g = cells-summed M (pow_pos z.m) (axes_of z) c in
    rw (summed-accepted z table outputs (number_of e)) (
      next z p.sizes (sums_of z c) rest again g h,
      next-difference z p.sizes (sums_of z c) rest again g h
          ∙ ap (λ l. l ++ drop (grid_size z) again) (differences_of_sum M (axes_of z) c (given-taken z table (length outputs) p.fits)),
    )

pub sum_of_difference : SumOfDifference
unfolding sums_of differences_of
sum_of_difference z outputs table again e h =
    let M = 2 ^ z.m in
    let p = cells-taken z outputs (length table) (number_of e) in
    let ys = take (grid_size z) outputs in
    let rest = drop (grid_size z) table in
    let g = cells-table M (pow_pos z.m) (axes_of z) (given (axes_of z) ys) in
    rw (differenced-accepted z outputs table (number_of e)) (
      next z p.sizes (differences_of z ys) rest again g h,
      next-sum z p.sizes (differences_of z ys) rest again g h
          ∙ ap (λ l. l ++ drop (grid_size z) again) (sum_of_differences M (axes_of z) ys (given-taken z outputs (length table) p.fits)),
    )
