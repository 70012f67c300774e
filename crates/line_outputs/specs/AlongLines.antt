-- What is asked and promised of a file that is run along w lines of a grid, a lane for each. Along a line only the last input changes.
--   Front w d inputs l x                        lane l of the input rows before the last of d is the front of the vector x
--   line_word low t                              the word that stands the count t above the word low
--   Last d low t x                              the last of the d inputs of the vector x stands the count t above low
--   Refreshed a s inputs before after list t    all rows hold the values at the lanes' vectors, where t is 0, or where they held those at vectors
--                                               beside these, and the steps that are not listed do not depend on the input in which the two differ
--   RefreshedAt a s inputs inputs' before after list t
--                                               the row of the last input stands the count t above its lowest value in every lane, every lane is on
--                                               the grid, and the rows are refreshed so
--   AlongLine a s inputs list                   what running a file along lines asks: d, and the axis and the lowest word of the last input, are the
--                                               file's, each step that is not listed does not depend on that input, the slice has a row for each
--                                               input, and every lane is on the grid
--   FrontsKept w d before after                 the rows of the inputs before the last of d are as before
--   OutputsSaved a s before after saved         row t of the saved rows shows the outputs at the count t of the last input, in every lane and for
--                                               each t below its axis; of the input rows, the fronts are as before, and every lane is on the grid
--   Matching a s inputs saved r                 there are r lanes, and in the first r the saved rows show the outputs of the file so
use Rattle.std.specs.Prelude.{◌≡◌, ℕ, ◌+◌, ◌-◌, ◌*◌, ◌%◌, ◌^◌, ◌<◌, ◌≤◌, List, length, slice_index}
use Rattle.dependence.specs.Dependence.{Beside, Listed, Rest}
use Rattle.fields.specs.File.{sizes_of}
use Rattle.grid.specs.Grid.{axes_of}
use Rattle.lanes.specs.Lanes.{Reads, HeldTo, Shown, LanesOnGrid}
use Rattle.rows.specs.Rows.{lane, Written}
use Rattle.vectors.specs.Vectors.{low_words}
use Rattle.line_outputs.specs.declared.Along.{Along}

abbrev pub Front : ℕ → ℕ → List ℕ → ℕ → List ℕ → Type 0
Front w d inputs l x = (i : ℕ) → i < d - 1 → lane w inputs i l ≡ slice_index x i

abbrev pub line_word : ℕ → ℕ → ℕ
line_word low t = (low + t) % 2 ^ 64

abbrev pub Last : ℕ → ℕ → ℕ → List ℕ → Type 0
Last d low t x = slice_index x (d - 1) ≡ line_word low t

abbrev pub Refreshed : Along → List ℕ → List ℕ → List ℕ → List ℕ → List ℕ → ℕ → Type 0
Refreshed a s inputs before after list t =
    (j l : ℕ) (x y : List ℕ) → l < a.w → Rest s j a.n list (length list) → Beside j x y → Reads a.w s inputs l y →
    (0 < t → HeldTo a.w s x before l a.n) → HeldTo a.w s y after l a.n

pub record RefreshedAt (a : Along) (s inputs inputs' before after list : List ℕ) (t : ℕ) : Type 0 where
  pub last : Written a.w inputs inputs' (a.d - 1) (λ l. line_word a.low t)
  pub on_grid : LanesOnGrid a.w s inputs'
  pub rows : Refreshed a s inputs' before after list t

pub record AlongLine (a : Along) (s inputs list : List ℕ) : Type 0 where
  pub input_count : a.d ≡ (sizes_of s).d
  pub axis : a.u ≡ slice_index (axes_of (sizes_of s)) (a.d - 1)
  pub lowest : a.low ≡ slice_index (low_words (sizes_of s)) (a.d - 1)
  pub listed : Listed a.n list (length list)
  pub rest : Rest s (a.d - 1) a.n list (length list)
  pub room : a.w * a.d ≤ length inputs
  pub on_grid : LanesOnGrid a.w s inputs

abbrev pub FrontsKept : ℕ → ℕ → List ℕ → List ℕ → Type 0
FrontsKept w d before after = (i l : ℕ) → i < d - 1 → l < w → lane w after i l ≡ lane w before i l

pub record OutputsSaved (a : Along) (s before after saved : List ℕ) : Type 0 where
  pub outputs :
      (l t : ℕ) (x : List ℕ) → l < a.w → t < a.u → Front a.w a.d before l x → Last a.d a.low t x → Shown a.w s x saved l t
  pub fronts : FrontsKept a.w a.d before after
  pub on_grid : LanesOnGrid a.w s after

pub record Matching (a : Along) (s inputs saved : List ℕ) (r : ℕ) : Type 0 where
  pub high : r ≤ a.w
  pub shown : (l t : ℕ) (x : List ℕ) → l < r → t < a.u → Front a.w a.d inputs l x → Last a.d a.low t x → Shown a.w s x saved l t
