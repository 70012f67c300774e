-- Sizes as words: m, d, the width bytes.
--   size_words z   the words of the sizes z
--   size_bytes w   each of the first words, as many as sizes have, fits a byte
--   sizes_fit w    the words are sizes: there are sizes_length of them, and each fits a byte
--   sizes_from w   the sizes that the first words give
--   SizeBytes w   size_bytes with no test in it, and there are words enough
--   ByteSizes z   sizes that the struct can hold: m, d and each of the max_inputs width bytes fit a byte
use Rattle.std.specs.Prelude.{Bool, ◌&&◌, List, ◌∷◌, ◌≡◌, ℕ, ◌≤◌, ◌<◌, ltb, eqb, length, get_or, take, drop}
use Rattle.ranges.specs.Search.{every}
use Rattle.sizes.specs.Sizes.{max_inputs}
use Rattle.sizes.specs.declared.Sizes.{Sizes}
use Rattle.layouts.specs.Lengths.{word_at, at_m, at_d, at_widths, sizes_length}

unfoldable pub size_words : Sizes → List ℕ
size_words z = z.m ∷ z.d ∷ z.widths

-- word i fits a byte
unfoldable pub fits_byte : List ℕ → ℕ → Bool
fits_byte w i = ltb (word_at w i) 256

unfoldable pub size_bytes : List ℕ → Bool
size_bytes w = every (fits_byte w) 0 sizes_length

unfoldable pub sizes_fit : List ℕ → Bool
sizes_fit w = eqb (length w) sizes_length && size_bytes w

unfoldable pub sizes_from : List ℕ → Sizes
sizes_from w = record { m = word_at w at_m; d = word_at w at_d; widths = take max_inputs (drop at_widths w) }

pub record SizeBytes (w : List ℕ) : Type 0 where
  pub long : sizes_length ≤ length w
  pub small : (i : ℕ) → i < sizes_length → word_at w i < 256

pub record ByteSizes (z : Sizes) : Type 0 where
  pub output : z.m < 256
  pub inputs : z.d < 256
  pub count : length z.widths ≡ max_inputs
  pub width : (i : ℕ) → i < max_inputs → get_or z.widths i 0 < 256
