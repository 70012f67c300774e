-- The values of inputs as 64-bit words (document 02, T-01).
--   signed_value w   the integer that the word w gives in two's complement: w itself below 2^63, and 2^64 less from there on
--   value_of f w     the value that the word w gives to an input of the format f: in two's complement where it is signed, and w itself where it is not
--   values_of fs ws  the vector that the words ws give to the inputs fs
--   Usable f        the word length is 1 to 64
--   in_format f w    a test: the word w gives a value of the input
--   WordsValues     words and values undo one another. Proved in proofs/InputWords:
--     written       every word is the word of the value that it gives
--     read          the word of a value of the input gives that value
--     test          and the test tells which words give one
use Rattle.std.specs.Prelude.{Bool, true, cond, ◌&&◌, List, [], ◌∷◌, ◌↔◌, ◌≡◌, ℕ, ◌^◌, ◌≤◌, ◌<◌, ltb, ℤ, pos, ◌-ℤ◌}
use Rattle.std.specs.Int.Signed.{le_z}
use Rattle.formats.specs.Formats.{lowest, highest, InFormat}
use Rattle.formats.specs.declared.Format.{Format}
use Rattle.words.specs.Words.{word}

unfoldable pub signed_value : ℕ → ℤ
signed_value w = cond (ltb w (2 ^ 63)) (pos w) (pos w -ℤ pos (2 ^ 64))

unfoldable pub value_of : Format → ℕ → ℤ
value_of f w = cond f.signed (signed_value w) (pos w)

unfoldable pub values_of : List Format → List ℕ → List ℤ
values_of [] ws = []
values_of (f ∷ fs) [] = []
values_of (f ∷ fs) (w ∷ ws) = value_of f w ∷ values_of fs ws

pub record Usable (f : Format) : Type 0 where
  pub low : 1 ≤ f.length
  pub high : f.length ≤ 64

unfoldable pub in_format : Format → ℕ → Bool
in_format f w = le_z (lowest f) (value_of f w) && le_z (value_of f w) (highest f)

pub record WordsValues : Type 0 where
  pub written : (f : Format) (w : ℕ) → w < 2 ^ 64 → word (value_of f w) ≡ w
  pub read : (f : Format) → Usable f → (v : ℤ) → InFormat f v → value_of f (word v) ≡ v
  pub test : (f : Format) (w : ℕ) → (in_format f w ≡ true) ↔ InFormat f (value_of f w)
