-- The contract of differencing and summing, by the case: which test finds the layout wrong, or it is right and the slices are as the call
-- leaves them. By the laws of tests. Assumes nothing.
use mathlib.Core.Bool.{Bool, true, false}
use mathlib.Core.List.{List}
use mathlib.Core.Path.{◌≡◌}
use Prim.Native.Nat.{ℕ}
use lib.ListN.{length}
use borrow.Author.Tests.{eq-eqb, ne_eqb}
use Rattle.layouts.specs.AnswerWords.{refusal_words}
use Rattle.layouts.specs.Lengths.{refusal_length}
use Rattle.layouts.specs.SizeWords.{sizes_fit, sizes_from}
use Rattle.cells.specs.Cells.{cells_refusal}
use Rattle.tables.specs.Tables.{transformed}
use Rattle.table_calls.specs.TableCalls.{cells_fit, TransformCall}

module _ (z o : List ℕ) where
  pub cells-out-wrong : ¬ (length o ≡ refusal_length) → cells_fit z o ≡ false
  unfolding cells_fit
  cells-out-wrong n = rw (ne_eqb (length o) refusal_length n)

  pub cells-judged : length o ≡ refusal_length → cells_fit z o ≡ sizes_fit z
  unfolding cells_fit
  cells-judged e = rw (eq-eqb (length o) refusal_length e)

module _ (sum : Bool) (z x y o : List ℕ) where
  pub transform_wrong : cells_fit z o ≡ false → TransformCall sum z x y o 0 y o
  transform_wrong e = record { result = rw e; out = rw e; written = rw e }

  pub transform_right :
      (y' o' : List ℕ) → cells_fit z o ≡ true → o' ≡ refusal_words (cells_refusal (sizes_from z) x (length y)) →
      y' ≡ transformed sum (sizes_from z) x y → TransformCall sum z x y o 1 y' o'
  transform_right y' o' e q p = record { result = rw e; out = rw e q; written = rw e p }
