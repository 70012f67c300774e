-- Demand 1 for a caller in C, of any words that a C function's contract holds of: a call that is not accepted touches nothing but its answer
-- slice, and where it is a refused opening the session words, which become 0. It is proved in proofs/, as refused_in_c. The parameters are
-- those of the contracts: what was lent, the result r, and the slices at exit (with a ').
--   Refused r o         the call returned 1, and the number word of its answer o is not 0
--   NotAccepted r o     it returned 0, or it was refused
-- Of each function, in a record of its own:
--   wrong               where it returned 0, the answer slice is as at entry
--   session, scratch, table, outputs    where it is not accepted, these words are as at entry
--   answer, out         where continuing or evaluating is refused, the answer is the three words of the refusal, and zeros
--   zeros               where an opening is refused, all session words are 0
--   text                where corkbingo_report returned 0, the text slice is as at entry
-- The refusal words of every answer are in specs/SaidInC.
use Rattle.std.specs.Prelude.{List, ◌++◌, ◌⊎◌, ◌≡◌, ℕ, ◌-◌, length, replicate}
use Rattle.evaluate.specs.Evaluate.{refusal_at}
use Rattle.file_calls.specs.FileCalls.{CheckCall, OperationsCall, EvaluateCall, evaluate_length}
use Rattle.grid_calls.specs.GridCalls.{BoundCall, GridCall}
use Rattle.layouts.specs.AnswerWords.{refusal_words}
use Rattle.layouts.specs.Lengths.{word_at, at_number, session_length, refusal_length, answer_length}
use Rattle.layouts.specs.SessionWords.{session_from}
use Rattle.report_calls.specs.ReportCalls.{ReportCall}
use Rattle.session_calls.specs.SessionCalls.{OpenCall, ContinueCall}
use Rattle.sessions.specs.Session.{continue_refusal}
use Rattle.table_calls.specs.TableCalls.{TableCall, DifferenceCall, SumCall}

pub record Refused (r : ℕ) (o : List ℕ) : Type 0 where
  pub laid : r ≡ 1
  pub number : ¬ (word_at o at_number ≡ 0)

abbrev pub NotAccepted : ℕ → List ℕ → Type 0
NotAccepted r o = (r ≡ 0) ⊎ Refused r o

pub record ContinueRefused (f₁ f₂ : List ℕ) (B : ℕ) (w s a : List ℕ) (r : ℕ) (w' s' a' : List ℕ) : Type 0 where
  pub wrong : r ≡ 0 → a' ≡ a
  pub session : NotAccepted r a' → w' ≡ w
  pub scratch : NotAccepted r a' → s' ≡ s
  pub answer :
      Refused r a' →
      a' ≡
      refusal_words (continue_refusal f₁ f₂ (session_from w) B (length s)) ++
      replicate (answer_length - refusal_length) 0

pub record OpenRefused (w o : List ℕ) (r : ℕ) (w' o' : List ℕ) : Type 0 where
  pub wrong : r ≡ 0 → o' ≡ o
  pub session : r ≡ 0 → w' ≡ w
  pub zeros : Refused r o' → w' ≡ replicate session_length 0

pub record EvaluateRefused (f x s o : List ℕ) (r : ℕ) (s' o' : List ℕ) : Type 0 where
  pub wrong : r ≡ 0 → o' ≡ o
  pub scratch : NotAccepted r o' → s' ≡ s
  pub out : Refused r o' → o' ≡ refusal_words (refusal_at f x (length s)) ++ replicate (evaluate_length - refusal_length) 0

pub record TableRefused (s t o : List ℕ) (r : ℕ) (s' t' o' : List ℕ) : Type 0 where
  pub wrong : r ≡ 0 → o' ≡ o
  pub scratch : NotAccepted r o' → s' ≡ s
  pub table : NotAccepted r o' → t' ≡ t

pub record DifferenceRefused (t o : List ℕ) (r : ℕ) (t' o' : List ℕ) : Type 0 where
  pub wrong : r ≡ 0 → o' ≡ o
  pub table : NotAccepted r o' → t' ≡ t

pub record SumRefused (y o : List ℕ) (r : ℕ) (y' o' : List ℕ) : Type 0 where
  pub wrong : r ≡ 0 → o' ≡ o
  pub outputs : NotAccepted r o' → y' ≡ y

pub record ReportWrong (t o : List ℕ) (r : ℕ) (t' o' : List ℕ) : Type 0 where
  pub wrong : r ≡ 0 → o' ≡ o
  pub text : r ≡ 0 → t' ≡ t

pub record RefusedInC : Type 0 where
  pub continuing :
      (f₁ f₂ : List ℕ) (B : ℕ) (w s a : List ℕ) (r : ℕ) (w' s' a' : List ℕ) →
      ContinueCall f₁ f₂ B w s a r w' s' a' → ContinueRefused f₁ f₂ B w s a r w' s' a'
  pub opening :
      (f₁ f₂ w o : List ℕ) (r : ℕ) (w' o' : List ℕ) → OpenCall f₁ f₂ w o r w' o' → OpenRefused w o r w' o'
  pub evaluating :
      (f x s o : List ℕ) (r : ℕ) (s' o' : List ℕ) → EvaluateCall f x s o r s' o' → EvaluateRefused f x s o r s' o'
  pub making :
      (f s t o : List ℕ) (r : ℕ) (s' t' o' : List ℕ) → TableCall f s t o r s' t' o' → TableRefused s t o r s' t' o'
  pub differencing :
      (z y t o : List ℕ) (r : ℕ) (t' o' : List ℕ) → DifferenceCall z y t o r t' o' → DifferenceRefused t o r t' o'
  pub summing : (z t y o : List ℕ) (r : ℕ) (y' o' : List ℕ) → SumCall z t y o r y' o' → SumRefused y o r y' o'
  pub checking : (f o : List ℕ) (r : ℕ) (o' : List ℕ) → CheckCall f o r o' → r ≡ 0 → o' ≡ o
  pub operations : (f o : List ℕ) (r : ℕ) (o' : List ℕ) → OperationsCall f o r o' → r ≡ 0 → o' ≡ o
  pub bound : (m : ℕ) (o : List ℕ) (r : ℕ) (o' : List ℕ) → BoundCall m o r o' → r ≡ 0 → o' ≡ o
  pub grid : (f o : List ℕ) (r : ℕ) (o' : List ℕ) → GridCall f o r o' → r ≡ 0 → o' ≡ o
  pub reporting :
      (f₁ f₂ a : List ℕ) (n : ℕ) (t o : List ℕ) (r : ℕ) (t' o' : List ℕ) →
      ReportCall f₁ f₂ a n t o r t' o' → ReportWrong t o r t' o'
