-- What the call on reports promises. The parameters of the record are what the call is given, its lent slices at entry, what it returns, and
-- these slices at exit (with a '): files f₁ and f₂, answer words a, vectors run n, text slice t, length slice o.
--   ReportCall           report_call
--   report_fits a t o     its layout: an answer's count of words, text_room bytes or more, and one word
--   report_text f₁ f₂ a n the text of the answer that the words give, after n vectors over all calls; none where the kind word is no kind
-- Its fields:
--   result    1 where the layout is right, else 0
--   text      the text stands at the start of the text slice, and the bytes past it are untouched
--   out       the length slice gets the text's count of bytes
-- Where the call returns 0, every slice is as at entry.
use Rattle.std.specs.Prelude.{Bool, cond, ◌&&◌, List, [], ◌∷◌, ◌++◌, ◌≡◌, ℕ, leb, length, drop}
use Rattle.layouts.specs.AnswerWords.{answer_fits, answer_from}
use Rattle.layouts.specs.Layout.{has, returned, leaves}
use Rattle.layouts.specs.Lengths.{answer_length}
use Rattle.report.specs.Report.{report_of, text_room}

-- the words of an answer: the length of the text
abbrev pub report_length : ℕ
report_length = 1

unfoldable pub report_fits : List ℕ → List ℕ → List ℕ → Bool
report_fits a t o = has answer_length a && leb text_room (length t) && has report_length o

unfoldable pub report_text : List ℕ → List ℕ → List ℕ → ℕ → List ℕ
report_text f₁ f₂ a n = cond (answer_fits a) (report_of f₁ f₂ (answer_from a) n) []

pub record ReportCall (f₁ f₂ a : List ℕ) (n : ℕ) (t o : List ℕ) (r : ℕ) (t' o' : List ℕ) : Type 0 where
  pub result : r ≡ returned (report_fits a t o)
  pub text : t' ≡ leaves (report_fits a t o) (report_text f₁ f₂ a n ++ drop (length (report_text f₁ f₂ a n)) t) t
  pub out : o' ≡ leaves (report_fits a t o) (length (report_text f₁ f₂ a n) ∷ []) o
