-- The refusal words of a call that returned 1, for a caller in C: words 0, 1 and 2 of the answer are number, file and step of what the call is
-- refused by, and 0 where it is accepted. It is proved in proofs/Said, as said_in_c. The parameters are those of the contracts. The answers of
-- corkbingo_operations and corkbingo_report have no refusal words.
--   Says q o        the words o begin with number, file and step of the refusal q; if the number is 0, so are file and step
use Rattle.std.specs.Prelude.{List, ◌≡◌, ℕ, length}
use Rattle.evaluate.specs.Evaluate.{refusal_at}
use Rattle.figures.specs.Figures.{figures_of}
use Rattle.file.specs.Check.{refusal_of}
use Rattle.file_calls.specs.FileCalls.{CheckCall, EvaluateCall}
use Rattle.grid_calls.specs.GridCalls.{BoundCall, GridCall}
use Rattle.layouts.specs.Lengths.{word_at}
use Rattle.layouts.specs.SessionWords.{session_from}
use Rattle.layouts.specs.SizeWords.{sizes_from}
use Rattle.session_calls.specs.SessionCalls.{OpenCall, ContinueCall}
use Rattle.sessions.specs.Session.{opened, continue_refusal}
use Rattle.sizes.specs.declared.Refusal.{Refusal}
use Rattle.table_calls.specs.TableCalls.{TableCall, DifferenceCall, SumCall}
use Rattle.cells.specs.Cells.{cells_refusal}
use Rattle.file_tables.specs.FileTables.{table_refusal}

pub record Says (q : Refusal) (o : List ℕ) : Type 0 where
  pub number : word_at o 0 ≡ q.number
  pub file : word_at o 1 ≡ q.file
  pub step : word_at o 2 ≡ q.step
  pub no_file : word_at o 0 ≡ 0 → word_at o 1 ≡ 0
  pub no_step : word_at o 0 ≡ 0 → word_at o 2 ≡ 0

pub record SaidInC : Type 0 where
  pub checking : (f o o' : List ℕ) → CheckCall f o 1 o' → Says (refusal_of 1 f) o'
  pub bound : (m : ℕ) (o o' : List ℕ) → BoundCall m o 1 o' → Says (figures_of m).refusal o'
  pub grid : (f o o' : List ℕ) → GridCall f o 1 o' → Says (refusal_of 1 f) o'
  pub evaluating : (f x s o s' o' : List ℕ) → EvaluateCall f x s o 1 s' o' → Says (refusal_at f x (length s)) o'
  pub making : (f s t o s' t' o' : List ℕ) → TableCall f s t o 1 s' t' o' → Says (table_refusal f (length s) (length t)) o'
  pub differencing :
      (z y t o t' o' : List ℕ) → DifferenceCall z y t o 1 t' o' → Says (cells_refusal (sizes_from z) y (length t)) o'
  pub summing : (z t y o y' o' : List ℕ) → SumCall z t y o 1 y' o' → Says (cells_refusal (sizes_from z) t (length y)) o'
  pub opening : (f₁ f₂ w o w' o' : List ℕ) → OpenCall f₁ f₂ w o 1 w' o' → Says (opened f₁ f₂).refusal o'
  pub continuing :
      (f₁ f₂ : List ℕ) (B : ℕ) (w s a w' s' a' : List ℕ) →
      ContinueCall f₁ f₂ B w s a 1 w' s' a' → Says (continue_refusal f₁ f₂ (session_from w) B (length s)) a'
