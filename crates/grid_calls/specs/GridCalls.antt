-- What the calls on bounds and grids promise. The parameters of each record are what the call is given, its lent slice at entry, what it
-- returns, and this slice at exit (with a '): output word length m, file f, answer slice o.
--   BoundCall     bound_call
--   GridCall      grid_call
--   bound_words m  the refusal (2: m is not 1 to 64), L(m), and L(m) divided by 2, 4, 8, 16, 32 and 64; all 0 in a refusal
--   grid_words s   the file's refusal, the axes (0 past d), and G; all 0 in a refusal
--   bound_length   how many words those of a bound are
-- The fields of the records:
--   result    1 where the answer slice has the answer's length, else 0
--   out       the answer slice gets the answer's words
-- Where the call returns 0, the slice is as at entry.
use Rattle.std.specs.Prelude.{cond, List, [], ◌∷◌, ◌++◌, ◌≡◌, ℕ, ◌+◌, eqb, replicate}
use Rattle.figures.specs.Figures.{Figures, figures_of}
use Rattle.file.specs.Check.{file_number, refusal_of}
use Rattle.fields.specs.File.{sizes_of}
use Rattle.grid.specs.Grid.{grid_of}
use Rattle.grid.specs.declared.Grid.{Grid}
use Rattle.layouts.specs.AnswerWords.{refusal_words}
use Rattle.layouts.specs.Layout.{has, returned, leaves}
use Rattle.layouts.specs.Lengths.{refusal_length, grid_length}
use Rattle.sizes.specs.Sizes.{max_inputs, accepted}

abbrev pub bound_length : ℕ
bound_length = refusal_length + 7

-- the words of figures
abbrev pub figure_words : Figures → List ℕ
figure_words b = refusal_words b.refusal ++ (b.bound ∷ b.quotients)

unfoldable pub bound_words : ℕ → List ℕ
bound_words m = figure_words (figures_of m)

pub record BoundCall (m : ℕ) (o : List ℕ) (r : ℕ) (o' : List ℕ) : Type 0 where
  pub result : r ≡ returned (has bound_length o)
  pub out : o' ≡ leaves (has bound_length o) (bound_words m) o

-- the words of a grid: its axes, and its size
abbrev pub grid_as_words : Grid → List ℕ
grid_as_words g = g.axes ++ (g.size ∷ [])

-- zeros for the axes and G
abbrev pub no_grid : List ℕ
no_grid = replicate (max_inputs + 1) 0

unfoldable pub grid_words : List ℕ → List ℕ
grid_words s =
    cond (eqb (file_number s) 0)
    (refusal_words accepted ++ grid_as_words (grid_of (sizes_of s)))
    (refusal_words (refusal_of 1 s) ++ no_grid)

pub record GridCall (f o : List ℕ) (r : ℕ) (o' : List ℕ) : Type 0 where
  pub result : r ≡ returned (has grid_length o)
  pub out : o' ≡ leaves (has grid_length o) (grid_words f) o
