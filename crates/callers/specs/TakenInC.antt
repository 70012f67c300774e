-- Which calls the C functions take: a call returns 1 exactly where its slices have the lengths of their layouts and the words that it reads of
-- sizes or of a session fit their fields, and 0 otherwise. A length that hangs on the most inputs has a name, whose number is in `layouts`
-- specs/Statement; the others are the header's numbers. It is proved in proofs/Taken, as taken_in_c. The parameters are those of the contracts.
--   Takes r P             the call returned r: 1 exactly where P holds, and 0 where it does not
--   SmallWords k w        each of the first k words is below 256
--   CellsLaid z o         the layout of corkbingo_difference and corkbingo_sum: the words of sizes, all small, and an answer slice of 3
--   OpenLaid w o          the layout of corkbingo_open: the words of a session, whatever they are, and an answer slice of 3
--   ContinueLaid w a      the layout of corkbingo_continue: the words of a session, of which those of its sizes are small and the mark is at most
--                         2; and an answer slice
--   ReportLaid a t o      the layout of corkbingo_report: the words of an answer, whatever they are, a text slice of 512 bytes or more, and one word
-- The other functions ask for the length of their answer slice alone.
use Rattle.std.specs.Prelude.{List, ◌↔◌, ◌≡◌, ℕ, ◌≤◌, ◌<◌, length}
use Rattle.file_calls.specs.FileCalls.{CheckCall, OperationsCall, EvaluateCall}
use Rattle.grid_calls.specs.GridCalls.{BoundCall, GridCall}
use Rattle.layouts.specs.Lengths.{word_at, sizes_length, at_mark, session_length, grid_length, answer_length}
use Rattle.report_calls.specs.ReportCalls.{ReportCall}
use Rattle.session_calls.specs.SessionCalls.{OpenCall, ContinueCall}
use Rattle.table_calls.specs.TableCalls.{TableCall, DifferenceCall, SumCall}

pub record Takes (r : ℕ) (P : Type 0) : Type 0 where
  pub taken : (r ≡ 1) ↔ P
  pub otherwise : ¬ P → r ≡ 0

abbrev pub SmallWords : ℕ → List ℕ → Type 0
SmallWords k w = (i : ℕ) → i < k → word_at w i < 256

pub record CellsLaid (z o : List ℕ) : Type 0 where
  pub sizes : length z ≡ sizes_length
  pub small : SmallWords sizes_length z
  pub out : length o ≡ 3

pub record OpenLaid (w o : List ℕ) : Type 0 where
  pub session : length w ≡ session_length
  pub out : length o ≡ 3

pub record ContinueLaid (w a : List ℕ) : Type 0 where
  pub session : length w ≡ session_length
  pub small : SmallWords sizes_length w
  pub mark : word_at w at_mark ≤ 2
  pub answer : length a ≡ answer_length

pub record ReportLaid (a t o : List ℕ) : Type 0 where
  pub answer : length a ≡ answer_length
  pub text : 512 ≤ length t
  pub out : length o ≡ 1

pub record TakenInC : Type 0 where
  pub checking : (f o : List ℕ) (r : ℕ) (o' : List ℕ) → CheckCall f o r o' → Takes r (length o ≡ 3)
  pub operations : (f o : List ℕ) (r : ℕ) (o' : List ℕ) → OperationsCall f o r o' → Takes r (length o ≡ 2)
  pub bound : (m : ℕ) (o : List ℕ) (r : ℕ) (o' : List ℕ) → BoundCall m o r o' → Takes r (length o ≡ 10)
  pub grid : (f o : List ℕ) (r : ℕ) (o' : List ℕ) → GridCall f o r o' → Takes r (length o ≡ grid_length)
  pub evaluating :
      (f x s o : List ℕ) (r : ℕ) (s' o' : List ℕ) → EvaluateCall f x s o r s' o' → Takes r (length o ≡ 4)
  pub making :
      (f s t o : List ℕ) (r : ℕ) (s' t' o' : List ℕ) → TableCall f s t o r s' t' o' → Takes r (length o ≡ 3)
  pub differencing :
      (z y t o : List ℕ) (r : ℕ) (t' o' : List ℕ) → DifferenceCall z y t o r t' o' → Takes r (CellsLaid z o)
  pub summing : (z t y o : List ℕ) (r : ℕ) (y' o' : List ℕ) → SumCall z t y o r y' o' → Takes r (CellsLaid z o)
  pub opening :
      (f₁ f₂ w o : List ℕ) (r : ℕ) (w' o' : List ℕ) → OpenCall f₁ f₂ w o r w' o' → Takes r (OpenLaid w o)
  pub continuing :
      (f₁ f₂ : List ℕ) (B : ℕ) (w s a : List ℕ) (r : ℕ) (w' s' a' : List ℕ) →
      ContinueCall f₁ f₂ B w s a r w' s' a' → Takes r (ContinueLaid w a)
  pub reporting :
      (f₁ f₂ a : List ℕ) (n : ℕ) (t o : List ℕ) (r : ℕ) (t' o' : List ℕ) →
      ReportCall f₁ f₂ a n t o r t' o' → Takes r (ReportLaid a t o)
