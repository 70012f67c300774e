-- The words of the answers about grids, by their cases. Assumes nothing.
use mathlib.Core.Path.{◌≡◌}
use mathlib.Core.List.{List, [], ◌∷◌, ◌++◌}
use Prim.Native.Nat.{ℕ}
use borrow.Author.Tests.{eq-eqb, ne_eqb}
use Rattle.file.specs.Check.{file_number, refusal_of}
use Rattle.fields.specs.File.{sizes_of}
use Rattle.grid.specs.Grid.{grid_of}
use Rattle.layouts.specs.AnswerWords.{refusal_words}
use Rattle.grid_calls.specs.GridCalls.{grid_as_words, no_grid, grid_words}

module _ (s : List ℕ) where
  -- the refusal of an accepted file
  pub refusal-accepted : file_number s ≡ 0 → refusal_words (refusal_of 1 s) ≡ 0 ∷ 0 ∷ 0 ∷ []
  unfolding refusal_of
  refusal-accepted e = rw (eq-eqb (file_number s) 0 e)

  pub grid-refused : ¬ (file_number s ≡ 0) → grid_words s ≡ refusal_words (refusal_of 1 s) ++ no_grid
  unfolding grid_words
  grid-refused n = rw (ne_eqb (file_number s) 0 n)

  pub grid-accepted : file_number s ≡ 0 → grid_words s ≡ 0 ∷ 0 ∷ 0 ∷ grid_as_words (grid_of (sizes_of s))
  unfolding grid_words
  grid-accepted e = rw (eq-eqb (file_number s) 0 e)
