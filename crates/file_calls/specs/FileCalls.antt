-- What the calls on one file promise. The parameters of each record are what the call is given, its lent slices at entry, what it
-- returns, and these slices at exit (with a '): file f, answer slice o, the words x of a vector, scratch slice s.
--   CheckCall        check_call
--   OperationsCall   operations_call
--   EvaluateCall     evaluate_call
--   operation_words s   start and length of the operation stretch in the file; 0 and 0 of a refused file
--   evaluate_words e    the refusal, and the output
--   operations_length, evaluate_length   how many words these have
-- The fields of the records:
--   result    1 where the answer slice has the answer's length, else 0
--   out       the answer slice gets the answer's words
--   scratch   the scratch slice: where the call is accepted its first N entries are zero, and all else is untouched
-- Where the call returns 0, every slice is as at entry.
use Rattle.std.specs.Prelude.{cond, List, [], ◌∷◌, ◌++◌, ◌≡◌, ℕ, ◌+◌, eqb, length}
use Rattle.evaluate.specs.Evaluate.{Evaluated, evaluated_at, evaluated_scratch}
use Rattle.file.specs.Check.{file_number, refusal_of}
use Rattle.fields.specs.File.{head_of, step_count}
use Rattle.layouts.specs.AnswerWords.{refusal_words}
use Rattle.layouts.specs.Layout.{has, returned, leaves}
use Rattle.layouts.specs.Lengths.{refusal_length}

pub record CheckCall (f o : List ℕ) (r : ℕ) (o' : List ℕ) : Type 0 where
  pub result : r ≡ returned (has refusal_length o)
  pub out : o' ≡ leaves (has refusal_length o) (refusal_words (refusal_of 1 f)) o

abbrev pub operations_length : ℕ
operations_length = 2

unfoldable pub operation_words : List ℕ → List ℕ
operation_words s = cond (eqb (file_number s) 0) (head_of s ∷ step_count s ∷ []) (0 ∷ 0 ∷ [])

pub record OperationsCall (f o : List ℕ) (r : ℕ) (o' : List ℕ) : Type 0 where
  pub result : r ≡ returned (has operations_length o)
  pub out : o' ≡ leaves (has operations_length o) (operation_words f) o

abbrev pub evaluate_length : ℕ
evaluate_length = refusal_length + 1

abbrev pub evaluate_words : Evaluated → List ℕ
evaluate_words e = refusal_words e.refusal ++ (e.output ∷ [])

pub record EvaluateCall (f x s o : List ℕ) (r : ℕ) (s' o' : List ℕ) : Type 0 where
  pub result : r ≡ returned (has evaluate_length o)
  pub out : o' ≡ leaves (has evaluate_length o) (evaluate_words (evaluated_at f x (length s))) o
  pub scratch : s' ≡ leaves (has evaluate_length o) (evaluated_scratch f x s) s
