-- The table of a file. Its outputs are its exact values modulo 2^m, and functions that are congruent over the grid have equal tables: so the
-- outputs, differenced, give the table of the exact values; and that table, summed, gives the outputs.
use mathlib.Core.Bool.{false}
use mathlib.Core.Path.{◌≡◌, refl, sym, ◌∙◌, ap}
use mathlib.Core.List.{List, ◌++◌}
use Prim.Native.Nat.{ℕ, ◌^◌, ◌<◌}
use native.Mathlib.Nat.{mod-eq_of_lt}
use native.Mathlib.Omega.{arith}
use lib.IntN.{ℤ, negsuc}
use lib.ListN.{length, take, drop}
use lib.Pow.{pow_pos}
use lib.Seq.{take_all}
use Rattle.file.proofs.Sound.{file-sound, file-ruled}
use Rattle.differences.specs.Table.{mixed_difference, listed, from_lowest, table_of, given, summed}
use Rattle.differences.proofs.Listed.{listed-equal, given-listed}
use Rattle.lists.proofs.Tabulate.{length-tabulate}
use Rattle.differences.proofs.Neighbours.{mixed-remainder}
use Rattle.differences.proofs.Lowest.{at_lowest}
use Rattle.differences.proofs.Tables.{difference-mixed, sum_of_table}
use Rattle.evaluate.specs.Evaluate.{output_of}
use Rattle.fields.proofs.Heads.{length-widths}
use Rattle.fields.specs.File.{sizes_of}
use Rattle.fields.specs.Steps.{steps_of}
use Rattle.grid.specs.Grid.{axes_of, lows_of, grid_size, grid_vector}
use Rattle.grid.specs.declared.Grid.{Grid}
use Rattle.grid.proofs.Grids.{grid-size, grid-axes, grid-least, length-lows}
use Rattle.integers.specs.Modulo.{remainder}
use Rattle.integers.proofs.Remainder.{remainder_pos, remainder-most}
use Rattle.places.specs.Places.{Below}
use Rattle.places.specs.Vectors.{counted, vector_at}
use Rattle.sizes.specs.Padded.{padded}
use Rattle.sizes.specs.Sizes.{max_inputs, Ruled, Sound}
use Rattle.sizes.specs.declared.Sizes.{Sizes}
use Rattle.datapath.specs.Steps.{exact, output}
use Rattle.tables.specs.Tables.{differences_of, sums_of}
use Rattle.tables.proofs.Fronts.{lent, in_place}
use Rattle.transform.specs.Grid.{Lent}
use Rattle.transform.specs.Transform.{transform_of}
use Rattle.vectors.specs.Vectors.{low_words}
use Rattle.file_tables.specs.FileTables.{table_of_file, grid_outputs}
use Rattle.file_tables.specs.Filling.{Filling, TableFilling}

-- functions that are congruent over the grid have equal tables
table_congruent :
    (M : ℕ) → 0 < M → (us : List ℕ) (F H : List ℕ → ℤ) →
    ((x : List ℕ) → Below us x → remainder (F x) M ≡ remainder (H x) M) → table_of M us F ≡ table_of M us H
unfolding table_of
table_congruent M z us F H e =
    listed-equal us (λ k. remainder (mixed_difference k F) M) (λ k. remainder (mixed_difference k H) M)
    (λ k b.
    ap (λ a. remainder a M) (difference-mixed k F)
    ∙ mixed-remainder M z (negsuc 0) us k F H b e
    ∙ ap (λ a. remainder a M) (sym (difference-mixed k H)))

module _ (s : List ℕ) where
  abbrev los : List ℤ
  los = lows_of (sizes_of s)

  abbrev us : List ℕ
  us = axes_of (sizes_of s)

  -- the outputs at the grid's vectors, by the counts of the places
  outputs-listed : grid_outputs s ≡ listed us (from_lowest los (output_of s))
  unfolding grid_outputs grid_size grid_vector vector_at
  outputs-listed = refl

  table_counted : table_of_file s ≡ table_of (2 ^ (sizes_of s).m) us (from_lowest los (exact (steps_of s)))
  unfolding table_of_file
  table_counted = at_lowest (2 ^ (sizes_of s).m) los us (exact (steps_of s)) (length-lows (sizes_of s))

  pub length-outputs : length (grid_outputs s) ≡ grid_size (sizes_of s)
  unfolding grid_outputs
  length-outputs = length-tabulate _ 0 (grid_size (sizes_of s))

  -- the outputs over the grid, differenced, give the table of the file
  pub outputs-table : differences_of (sizes_of s) (grid_outputs s) ≡ table_of_file s
  unfolding differences_of output_of output
  outputs-table =
      let M = 2 ^ (sizes_of s).m in
      let o = from_lowest los (output_of s) in
      ap (λ ys. table_of M us (given us ys)) outputs-listed
      ∙ table_congruent M (pow_pos (sizes_of s).m) us (given us (listed us o)) (from_lowest los (exact (steps_of s)))
      (λ x b.
      ap (λ a. remainder a M) (given-listed us o x b)
      ∙ remainder_pos (o x) M
      ∙ mod-eq_of_lt (remainder-most (exact (steps_of s) (counted los x)) M (pow_pos (sizes_of s).m)))
      ∙ sym table_counted

  -- the table of the file, summed, gives the outputs over the grid
  pub table_sums : sums_of (sizes_of s) (table_of_file s) ≡ grid_outputs s
  unfolding sums_of output_of output
  table_sums =
      let M = 2 ^ (sizes_of s).m in
      ap (summed M us) table_counted ∙ sum_of_table M (pow_pos (sizes_of s).m) us (from_lowest los (exact (steps_of s))) ∙ sym outputs-listed

-- the sizes and the grid of an accepted file, as the code has them, where both slices have room
module _ {s : List ℕ} {n : ℕ} {z : Sizes} {g : Grid} {scratch table : List ℕ} (k : TableFilling s n z g scratch table) where
  sizes-full : length z.widths ≡ max_inputs
  sizes-full = rw k.sizes (length-widths s)

  sizes-sound : Sound z
  unfolding sizes_of
  sizes-sound = rw k.sizes (file-sound _ k.sound)

  same-axes : take z.d g.axes ≡ axes_of z
  same-axes = grid-axes z g k.grid sizes-full sizes-sound.1

  -- the sizes keep their rules
  pub sizes-ruled : Ruled z
  unfolding sizes_of
  sizes-ruled = rw k.sizes (file-ruled _ k.sound)

  -- what filling with the outputs asks
  pub filling : (lows : List ℕ) → lows ≡ padded (low_words z) → Filling s n g.axes lows z.d g.size scratch table
  filling lows low =
      let G = grid-size z g k.grid in
      record {
        sound = k.sound;
        steps = k.steps;
        inputs = ap (λ (z : Sizes). z.d) k.sizes;
        grid = same-axes ∙ ap axes_of k.sizes;
        lowest = low ∙ ap (λ (z : Sizes). padded (low_words z)) k.sizes;
        some = omega (arith, grid-least z sizes-sound, G);
        counted = G ∙ ap grid_size k.sizes;
        room = k.room;
        table_room = k.table_room;
      }

  -- what differencing in place asks of a slice as long as the table slice
  pub differencing : (len : ℕ) → len ≡ length table → Lent g.axes z.d g.size z.m len
  differencing len e = lent z sizes-full sizes-sound g k.grid len (omega (arith, grid-size z g k.grid, k.table_room))

  -- the outputs over the grid, differenced in place
  pub filled :
      (outputs out : List ℕ) → outputs ≡ grid_outputs s ++ drop g.size table →
      out ≡ transform_of false (2 ^ z.m) (take z.d g.axes) (take g.size outputs) ++ drop g.size outputs →
      out ≡ table_of_file s ++ drop (grid_size (sizes_of s)) table
  unfolding differences_of transform_of
  filled outputs out e o =
      let ys = grid_outputs s in
      let full : length ys ≡ grid_size z = length-outputs s ∙ sym (ap grid_size k.sizes) in
      in_place z sizes-full sizes-sound g k.grid false ys table outputs out (omega (arith, full))
      (e ∙ ap (λ l. l ++ drop g.size table) (sym (take_all g.size ys (omega (arith, full, grid-size z g k.grid)))))
      o
      ∙ ap (λ l. differences_of z l ++ drop (grid_size z) table) (take_all (grid_size z) ys (omega (arith, full)))
      ∙ ap (λ (z : Sizes). differences_of z ys ++ drop (grid_size z) table) k.sizes
      ∙ ap (λ l. l ++ drop (grid_size (sizes_of s)) table) (outputs-table s)
