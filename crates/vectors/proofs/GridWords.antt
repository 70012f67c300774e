-- The words of the grid's vectors: each value of the grid is a value of its input, so its word gives it back.
-- Assumes nothing.
use Rattle.std.proofs.Common.{◌≡◌, ℕ, ◌<◌, map, length, get_or, sym, ◌∙◌, subst, arith}
use lib.ListN.{length-map}
use Rattle.formats.specs.Formats.{FullWidth}
use Rattle.formats.specs.declared.Format.{Format}
use Rattle.grid.specs.Grid.{axes_of, lows_of, grid_size, grid_vector}
use Rattle.grid.proofs.Grids.{length-axes, length-lows}
use Rattle.grid_theorem.proofs.Grid.{grid-full}
use Rattle.input_words.specs.InputWords.{Usable}
use Rattle.input_words.proofs.InputWords.{values-front, values-words}
use Rattle.places.specs.Vectors.{vector_at}
use Rattle.places.proofs.Places.{length_digits}
use Rattle.places.proofs.Vectors.{vectors}
use Rattle.sizes.specs.Sizes.{max_inputs, formats_of, Ruled}
use Rattle.sizes.specs.declared.Sizes.{Sizes}
use Rattle.sizes.proofs.Formats.{length_formats, format_entry}
use Rattle.words.specs.Words.{word}
use Rattle.vectors.specs.Vectors.{low_words, EachGridWords}
use Rattle.vectors.proofs.Raised.{held-integers, length-counted}

-- a grid's vector is full-width
pub grid-vector-full : (z : Sizes) (p : ℕ) → p < grid_size z → FullWidth (formats_of z) (grid_vector z p)
unfolding grid_vector grid_size axes_of lows_of
grid-vector-full z p h = grid-full z.m (formats_of z) _ ((vectors (lows_of z) (axes_of z) (length-lows z)).on_axes p h)

pub length-grid-vector : (z : Sizes) (p : ℕ) → length (grid_vector z p) ≡ length (axes_of z)
unfolding grid_vector vector_at
length-grid-vector z p = length-counted (lows_of z) _ (length-lows z ∙ sym (length_digits (axes_of z) p)) ∙ length-lows z

-- each input of sizes that keep their rules has 1 to 64 bits
pub each_usable : (z : Sizes) → length z.widths ≡ max_inputs → Ruled z → (i : ℕ) (f : Format) → i < length (formats_of z) → Usable (get_or (formats_of z) i f)
each_usable z w r i f h =
    let l : i < z.d = omega (arith, length_formats z (omega (arith, w, r.inputs_high))) in
    subst Usable (sym (format_entry z (omega (arith, w, r.inputs_high)) i f l)) (record { low = r.width_low i l; high = r.width_high i l })

pub each_grid_words : EachGridWords
unfolding grid_vector low_words
each_grid_words z w r p h =
    record {
      words = held-integers (lows_of z) (axes_of z) p (length-lows z);
      integers =
          values-front (formats_of z) (map word (grid_vector z p)) _
          (length_formats z (omega (arith, w, r.inputs_high)) ∙ sym (length-map (grid_vector z p) word ∙ length-grid-vector z p ∙ length-axes z w r.inputs_high))
          ∙ values-words (formats_of z) (grid_vector z p) (each_usable z w r) (grid-vector-full z p h);
    }
