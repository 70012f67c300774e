-- The printed text for a caller in C. Each statement is proved in proofs/, under the same name with a small first letter, from the library's
-- claims about reports.
--   ShownInC f₁ f₂ t t' l'   a text slice t afterwards, and the length word: what is printed of the files, and the bytes past it untouched
--   ReportInC                a call of a list that demand 3 is about has the kind word 2 or 3: corkbingo_report, given its answer words and the sum
--                            of all run words, writes what is printed of the files
--   RefusedReportInC         opening is refused: corkbingo_report, given the answer words of a call of corkbingo_continue on the session words that
--                            opening left, with a budget above 0, writes the line that is printed of the files
-- Of any answer words, whoever made them, where corkbingo_report returned 1; the places of the words are the header's numbers:
--   Stands P t t' l'         a text with the property P stands at the start of the text slice, the bytes past it are untouched, and the length
--                            word is its count of bytes
--   RefusedTextInC           the kind word is 0: the text is the one line of the refusal that words 0, 1 and 2 are
--   VerdictTextInC           the kind word is 2 or 3, and opening the files is accepted: the text shows the verdict with what the answer's words say
--   ShowsWords f₁ a n text   the text is three lines: the grid, the verdict that the answer words a give, and n
--   NoTextInC                the kind word is not 0, 2 or 3, or it is 2 or 3 and opening the files is refused: there is no text
--   NoText t t' l'           the text slice is as at entry, and the length word is 0
-- Which calls it takes is in specs/TakenInC.
use Rattle.std.specs.Prelude.{List, [], ◌∷◌, ◌++◌, ◌⊎◌, ◌≡◌, ℕ, ◌<◌, length, take, drop}
use Rattle.evaluate.specs.Evaluate.{vector_of}
use Rattle.fields.specs.File.{sizes_of}
use Rattle.layouts.specs.Lengths.{word_at, at_number, at_vector, at_output₁, at_output₂}
use Rattle.printed.specs.Claims.{differ_words, ThreeLines, Refuses}
use Rattle.printed.specs.Report.{printed}
use Rattle.text.specs.Text.{ascii, words_of}
use Rattle.report_calls.specs.ReportCalls.{ReportCall}
use Rattle.session_calls.specs.SessionCalls.{OpenCall, ContinueCall}
use Rattle.sessions.specs.Session.{opened}
use Rattle.callers.specs.Made.{Made, Chain, Each, GivesVerdict, Allowed, runs}

pub record ShownInC (f₁ f₂ t t' l' : List ℕ) : Type 0 where
  pub text : t' ≡ printed f₁ f₂ ++ drop (length (printed f₁ f₂)) t
  pub count : l' ≡ length (printed f₁ f₂) ∷ []

abbrev pub ReportInC : Type 0
ReportInC =
    (f₁ f₂ w₀ o w o' : List ℕ) →
    OpenCall f₁ f₂ w₀ o 1 w o' →
    word_at o' at_number ≡ 0 →
    (cs : List Made) →
    Chain w cs →
    Each (Allowed f₁ f₂) cs →
    (before : List Made) (c : Made) (after : List Made) →
    cs ≡ before ++ c ∷ after →
    GivesVerdict c →
    (t l t' l' : List ℕ) →
    ReportCall f₁ f₂ c.answer' (runs cs) t l 1 t' l' →
    ShownInC f₁ f₂ t t' l'

abbrev pub RefusedReportInC : Type 0
RefusedReportInC =
    (f₁ f₂ w₀ o w o' : List ℕ) →
    OpenCall f₁ f₂ w₀ o 1 w o' →
    ¬ (word_at o' at_number ≡ 0) →
    (B : ℕ) (s a w' s' a' : List ℕ) →
    ContinueCall f₁ f₂ B w s a 1 w' s' a' →
    0 < B →
    (n : ℕ) (t l t' l' : List ℕ) →
    ReportCall f₁ f₂ a' n t l 1 t' l' →
    ShownInC f₁ f₂ t t' l'

pub record NoText (t t' l' : List ℕ) : Type 0 where
  pub text : t' ≡ t
  pub count : l' ≡ 0 ∷ []

pub record Stands (P : List ℕ → Type 0) (t t' l' : List ℕ) : Type 0 where
  pub said : List ℕ
  pub told : P said
  pub text : t' ≡ said ++ drop (length said) t
  pub count : l' ≡ length said ∷ []

abbrev pub RefusedTextInC : Type 0
RefusedTextInC =
    (f₁ f₂ a : List ℕ) (n : ℕ) (t l t' l' : List ℕ) →
    ReportCall f₁ f₂ a n t l 1 t' l' →
    word_at a 3 ≡ 0 →
    Stands (Refuses (record { number = word_at a 0; file = word_at a 1; step = word_at a 2 })) t t' l'

pub record ShowsWords (f₁ a : List ℕ) (n : ℕ) (text : List ℕ) : Type 0 where
  -- the line of the verdict
  pub verdict : List ℕ
  -- it stands between the grid and n
  pub lines : ThreeLines f₁ n verdict text
  -- that one word where the kind word is 2
  pub equivalent : word_at a 3 ≡ 2 → verdict ≡ ascii "equivalent"
  -- where it is 3, the values that the first d words of the vector give to the inputs, and the two output words
  pub differs :
      word_at a 3 ≡ 3 →
      let x = vector_of (sizes_of f₁) (take (sizes_of f₁).d (drop at_vector a)) in
      words_of verdict ≡ differ_words x (word_at a at_output₁) (word_at a at_output₂)

abbrev pub VerdictTextInC : Type 0
VerdictTextInC =
    (f₁ f₂ a : List ℕ) (n : ℕ) (t l t' l' : List ℕ) →
    ReportCall f₁ f₂ a n t l 1 t' l' →
    (opened f₁ f₂).refusal.number ≡ 0 →
    (word_at a 3 ≡ 2) ⊎ (word_at a 3 ≡ 3) →
    Stands (ShowsWords f₁ a n) t t' l'

pub record NoTextInC : Type 0 where
  pub kinds :
      (f₁ f₂ a : List ℕ) (n : ℕ) (t l t' l' : List ℕ) →
      ReportCall f₁ f₂ a n t l 1 t' l' →
      ¬ (word_at a 3 ≡ 0) →
      ¬ (word_at a 3 ≡ 2) →
      ¬ (word_at a 3 ≡ 3) →
      NoText t t' l'
  pub unopened :
      (f₁ f₂ a : List ℕ) (n : ℕ) (t l t' l' : List ℕ) →
      ReportCall f₁ f₂ a n t l 1 t' l' →
      ¬ ((opened f₁ f₂).refusal.number ≡ 0) →
      (word_at a 3 ≡ 2) ⊎ (word_at a 3 ≡ 3) →
      NoText t t' l'
