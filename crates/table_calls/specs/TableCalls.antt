-- What the calls on difference tables promise. The parameters of each record are what the call is given, its lent slices at entry, what it
-- returns, and these slices at exit (with a '): file f, sizes z, scratch slice s, table t, cells x, result slice y, answer slice o.
--   TableCall         table_call
--   TransformCall     transform_call: summing or not
--   DifferenceCall, SumCall   differencing and summing, the two cases of it
--   cells_fit z o      the layout of both: the answer slice has a refusal's count of words, and the words z are sizes
-- The fields of the calls in words:
--   result    1 where the layout is right, else 0
--   out       the answer slice gets the refusal
--   table     the table slice: where the call is accepted its first G entries are the table, and all else is untouched
--   written   the result slice: where the call is accepted its first G entries are the sums or the differences, and all else is untouched
--   scratch   the scratch slice: where the call is accepted its first N entries are zero, and all else is untouched
-- Where the call returns 0, every slice is as at entry.
use Rattle.std.specs.Prelude.{Bool, true, false, ◌&&◌, List, ◌≡◌, ℕ, length}
use Rattle.layouts.specs.AnswerWords.{refusal_words}
use Rattle.layouts.specs.Layout.{has, returned, leaves}
use Rattle.layouts.specs.Lengths.{refusal_length}
use Rattle.layouts.specs.SizeWords.{sizes_fit, sizes_from}
use Rattle.cells.specs.Cells.{cells_refusal}
use Rattle.file_tables.specs.FileTables.{table_refusal, made_table, table_scratch}
use Rattle.tables.specs.Tables.{transformed}

pub record TableCall (f s t o : List ℕ) (r : ℕ) (s' t' o' : List ℕ) : Type 0 where
  pub result : r ≡ returned (has refusal_length o)
  pub out : o' ≡ leaves (has refusal_length o) (refusal_words (table_refusal f (length s) (length t))) o
  pub table : t' ≡ leaves (has refusal_length o) (made_table f (length s) t) t
  pub scratch : s' ≡ leaves (has refusal_length o) (table_scratch f s (length t)) s

unfoldable pub cells_fit : List ℕ → List ℕ → Bool
cells_fit z o = has refusal_length o && sizes_fit z

pub record TransformCall (sum : Bool) (z x y o : List ℕ) (r : ℕ) (y' o' : List ℕ) : Type 0 where
  pub result : r ≡ returned (cells_fit z o)
  pub out : o' ≡ leaves (cells_fit z o) (refusal_words (cells_refusal (sizes_from z) x (length y))) o
  pub written : y' ≡ leaves (cells_fit z o) (transformed sum (sizes_from z) x y) y

abbrev pub DifferenceCall : List ℕ → List ℕ → List ℕ → List ℕ → ℕ → List ℕ → List ℕ → Type 0
DifferenceCall = TransformCall false

abbrev pub SumCall : List ℕ → List ℕ → List ℕ → List ℕ → ℕ → List ℕ → List ℕ → Type 0
SumCall = TransformCall true
