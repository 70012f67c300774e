-- The text that a slice is given of an answer, and the definitions that callers of the report read.
--   reported f₁ f₂ a n room   the text of the answer a after n vectors, as far as a slice of that many bytes has the room for a text
--   Reported f₁ f₂ a n ..     that text was written
use Rattle.std.specs.Prelude.{cond, List, [], ℕ, ltb, length}
use Rattle.sessions.specs.declared.Answer.{Answer}
use Rattle.text.specs.Writing.{TextWritten}
unfoldable pub use Rattle.printed.specs.Report.{report_of}
pub use Rattle.printed.specs.Report.{text_room}

unfoldable pub reported : List ℕ → List ℕ → Answer → ℕ → ℕ → List ℕ
reported f₁ f₂ a n room = cond (ltb room text_room) [] (report_of f₁ f₂ a n)

abbrev pub Reported : List ℕ → List ℕ → Answer → ℕ → List ℕ → List ℕ → ℕ → Type 0
Reported f₁ f₂ a n before after r = TextWritten (reported f₁ f₂ a n (length before)) before after r
