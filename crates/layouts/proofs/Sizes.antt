-- Sizes as words: m and d are the first two words, and the word lengths are the others. Assumes nothing.
use mathlib.Core.List.{List, [], ◌∷◌}
use mathlib.Core.Path.{◌≡◌, ap}
use Prim.Native.Nat.{ℕ, zero, suc, ◌<◌}
use native.Mathlib.Omega.{arith}
use lib.ListN.{length, drop, length-take, length-drop}
use lib.Seq.{take_all, get_or-take, get_or-drop}
use Rattle.sizes.specs.Sizes.{max_inputs}
use Rattle.sizes.specs.declared.Sizes.{Sizes}
use Rattle.layouts.specs.Lengths.{word_at, sizes_length}
use Rattle.layouts.specs.SizeWords.{size_words, sizes_from, SizeBytes, ByteSizes}
use Rattle.layouts.specs.Statement.{SizesAsWords}
use Rattle.layouts.proofs.Told.{SizesTold, sizes-told, sizes-fit}

split : (w : List ℕ) → length w ≡ sizes_length → size_words (sizes_from w) ≡ w
unfolding size_words sizes_from
split [] e = absurd (omega arith)
split (m ∷ []) e = absurd (omega arith)
split (m ∷ d ∷ l) e = ap (λ k. m ∷ d ∷ k) (take_all max_inputs l (omega arith))

-- the sizes that words give fit bytes
pub given-bytes : (w : List ℕ) → SizeBytes w → ByteSizes (sizes_from w)
unfolding sizes_from
given-bytes w b =
    record {
      output = b.small 0 (omega arith);
      inputs = b.small 1 (omega arith);
      count = rw (length-take, length-drop) (omega (arith, b.long));
      width = λ i l. rw (get_or-take max_inputs (drop 2 w) i 0 l, get_or-drop) (b.small _ (omega arith));
    }

module _ (z : Sizes) (b : ByteSizes z) where
  pub size-words-most : (i : ℕ) → i < sizes_length → word_at (size_words z) i < 256
  unfolding size_words
  size-words-most zero l = b.output
  size-words-most (suc zero) l = b.inputs
  size-words-most (suc (suc i)) l = b.width i (omega arith)

  fit : SizesTold (size_words z)
  unfolding size_words
  fit =
      let c = b.count in
      record { long = omega arith; bytes = record { long = omega arith; small = size-words-most } }

  again : sizes_from (size_words z) ≡ z
  unfolding size_words sizes_from
  again = let c = b.count in λ i. record { m = z.m; d = z.d; widths = take_all max_inputs z.widths (omega arith) i }

pub sizes_as_words : SizesAsWords
sizes_as_words =
    record {
      restored = λ w e. split w (sizes-told w e).long;
      fits = λ z b. sizes-fit (size_words z) (fit z b);
      decoded = again;
    }
