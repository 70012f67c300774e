-- A vector as the machine holds it: one word for each of the inputs that a file may have. Of each input the grid has consecutive values from its
-- lowest up, and lows are the words of these lowest values, 0 past the last input.
--   low_words z              the words of the lowest values of the inputs of the sizes z
--   raised lows ts          the words that stand the counts ts above the words lows, modulo 2^64
--   held_at lows us p        the vector at place p of the grid with the axes us, as words: the digits of p above the lowest values
--   HoldsVector lows us p r what finding a vector promises:
--       words               r holds that vector
--       integers            whatever the lowest values with these words are, r holds the words of the integers at place p, and 0 past the last
--   Arrays lows us          lows and the axes us as the machine holds them: each is a word, and there is a lowest word for each input that a file may have
--   Placed lows us v        v holds one of the vectors of the grid
--   GridWord z i w          the word w is that of one of the values that the grid has of input i
--   GridWords z p           the vector at place p of the grid of the sizes z: its words are those of the integers, and give these back
--   EachGridWords           so it is at every place, of sizes that keep their rules. Proved in proofs/GridWords
--   Next lows us v r        where v holds the vector at a place that is not the last, r holds the one at the next place
use Rattle.std.specs.Prelude.{◌≡◌, ℕ, ◌+◌, ◌%◌, ◌^◌, ◌<◌, ◌≤◌, List, [], ◌∷◌, map, length, ℤ, slice_index}
use Rattle.grid.specs.Grid.{axes_of, lows_of, grid_size, grid_vector}
use Rattle.input_words.specs.InputWords.{values_of}
use Rattle.places.specs.Places.{size, digits_at}
use Rattle.places.specs.Vectors.{vector_at}
use Rattle.sizes.specs.Padded.{padded}
use Rattle.sizes.specs.Sizes.{max_inputs, formats_of, Ruled}
use Rattle.sizes.specs.declared.Sizes.{Sizes}
use Rattle.words.specs.Words.{word}

unfoldable pub low_words : Sizes → List ℕ
low_words z = map word (lows_of z)

unfoldable pub raised : List ℕ → List ℕ → List ℕ
raised [] ts = []
raised (f ∷ fs) [] = []
raised (f ∷ fs) (t ∷ ts) = (f + t) % 2 ^ 64 ∷ raised fs ts

unfoldable pub held_at : List ℕ → List ℕ → ℕ → List ℕ
held_at lows us p = raised lows (padded (digits_at us p))

pub record HoldsVector (lows us : List ℕ) (p : ℕ) (r : List ℕ) : Type 0 where
  pub words : r ≡ held_at lows us p
  pub integers :
      (los : List ℤ) → length los ≡ length us → lows ≡ padded (map word los) → r ≡ padded (map word (vector_at los us p))

pub record Arrays (lows us : List ℕ) : Type 0 where
  pub each : length lows ≡ max_inputs
  pub words : (i : ℕ) → slice_index lows i < 2 ^ 64
  pub few : length us ≤ max_inputs
  pub axes : (i : ℕ) → slice_index us i < 2 ^ 64

pub record Placed (lows us v : List ℕ) : Type 0 where
  pub place : ℕ
  pub inside : place < size us
  pub shape : v ≡ held_at lows us place

abbrev pub Next : List ℕ → List ℕ → List ℕ → List ℕ → Type 0
Next lows us v r = (p : ℕ) → p + 1 < size us → v ≡ held_at lows us p → r ≡ held_at lows us (p + 1)

pub record GridWord (z : Sizes) (i w : ℕ) : Type 0 where
  pub count : ℕ
  pub below : count < slice_index (axes_of z) i
  pub above : w ≡ (slice_index (low_words z) i + count) % 2 ^ 64

pub record GridWords (z : Sizes) (p : ℕ) : Type 0 where
  pub words : held_at (padded (low_words z)) (axes_of z) p ≡ padded (map word (grid_vector z p))
  pub integers : values_of (formats_of z) (padded (map word (grid_vector z p))) ≡ grid_vector z p

abbrev pub EachGridWords : Type 0
EachGridWords = (z : Sizes) → length z.widths ≡ max_inputs → Ruled z → (p : ℕ) → p < grid_size z → GridWords z p
