-- What is claimed of the texts. Each statement is proved in proofs/, under the same name with a small first letter. A text is taken apart here by its
-- bytes alone (`lines_of`, `words_of` in text specs/Text), so that no definition of a line has to be believed.
--   AllEqual f₁ f₂       the outputs are equal at every full-width vector
--   differ_words x o₁ o₂  the words of a difference: at the vector x of integers, with the outputs o₁ and o₂
--   DifferLine f₁ f₂ l   the line l shows the first of all full-width vectors at which the outputs differ, and both outputs there
--   ThreeLines f₁ n l t  the text t is three lines: the grid of f₁, the line l, and n as the vectors run
--   Tells f₁ f₂ text     the text is three lines: the grid, the verdict and the vectors run
--   PrintedTells         what is printed of two files whose opening is accepted tells that
--   Refuses r text       the text is one line: refused, and the number, the file and the step of the refusal r
--   RefusedLine          what is printed of two files whose opening is refused is that line of its refusal
--   RefusedText          the text of any answer that refuses is that line of its refusal
--   Shows f₁ a n text    the text is three lines: the grid, the verdict that the answer a gives, with what its words say, and n
--   ShownAsIs            the text of any verdict on two files whose opening is accepted shows that
--   NoText               a spent answer has no text, nor has a verdict on files whose opening is refused
--   ReportedInFull       where a call of a list that demand 3 is about gives a verdict, the text of its answer is what is printed of the files
--   RefusedReported      where opening is refused, the text of a continue call with a budget is what is printed of the files
--   Words a              each number of the answer a but the vectors run fits 64 bits, and its vector has an entry for each input that a file may have
--   Fits                 the text of an answer of such numbers has room in a slice of text_room bytes
use Rattle.std.specs.Prelude.{◌≡◌, ◌↔◌, List, [], ◌∷◌, ◌++◌, map, ℕ, ◌^◌, ◌≤◌, ◌<◌, ℤ, length, get_or}
use Rattle.evaluate.specs.Evaluate.{output_of, vector_of}
use Rattle.fields.specs.File.{sizes_of}
use Rattle.fields.specs.Steps.{steps_of}
use Rattle.grid.specs.Grid.{axes_of, grid_size}
use Rattle.sessions.specs.Calls.{Call, answer_to, session_after, answers, IsVerdict, vectors_run}
use Rattle.sessions.specs.Demand3.{Allowed, stop, FullWidth, start}
use Rattle.sessions.specs.Session.{opened, continued}
use Rattle.sessions.specs.declared.Answer.{Answer}
use Rattle.sessions.specs.declared.Kind.TheVariants.{Refused, Spent, Equivalent, Differs}
use Rattle.sizes.specs.Sizes.{max_inputs, formats_of}
use Rattle.sizes.specs.declared.Refusal.{Refusal}
use Rattle.grid_theorem.specs.Comparison.{IsFirst}
use Rattle.text.specs.Decimal.{decimal, integer}
use Rattle.printed.specs.Report.{printed, report_of, text_room}
use Rattle.text.specs.Text.{ascii, lines_of, words_of}

abbrev pub AllEqual : List ℕ → List ℕ → Type 0
AllEqual f₁ f₂ = (x : List ℤ) → FullWidth f₁ x → output_of f₁ x ≡ output_of f₂ x

abbrev pub differ_words : List ℤ → ℕ → ℕ → List (List ℕ)
differ_words x o₁ o₂ = ascii "differ" ∷ map integer x ++ ascii ":" ∷ decimal o₁ ∷ decimal o₂ ∷ []

pub record DifferLine (f₁ f₂ line : List ℕ) : Type 0 where
  pub vector : List ℤ
  pub first : IsFirst (sizes_of f₁).m (formats_of (sizes_of f₁)) (steps_of f₁) (steps_of f₂) vector
  pub words : words_of line ≡ differ_words vector (output_of f₁ vector) (output_of f₂ vector)

pub record ThreeLines (f₁ : List ℕ) (n : ℕ) (second text : List ℕ) : Type 0 where
  pub first : List ℕ
  pub third : List ℕ
  -- three lines, each ended by a line feed, and nothing after them
  pub split : lines_of text ≡ first ∷ second ∷ third ∷ [] ∷ []
  -- the axes and the size of the grid
  pub grid : words_of first ≡ ascii "grid" ∷ map decimal (axes_of (sizes_of f₁)) ++ ascii "=" ∷ decimal (grid_size (sizes_of f₁)) ∷ []
  -- the vectors run
  pub run : words_of third ≡ ascii "run" ∷ decimal n ∷ []

pub record Tells (f₁ f₂ text : List ℕ) : Type 0 where
  -- the line of the verdict
  pub verdict : List ℕ
  -- it stands between the grid and the vectors run over all calls
  pub lines : ThreeLines f₁ (stop f₁ f₂) verdict text
  -- equivalent is said exactly where the outputs are equal at every full-width vector
  pub equivalent : (verdict ≡ ascii "equivalent") ↔ AllEqual f₁ f₂
  -- and otherwise where they differ first
  pub differ : ¬ AllEqual f₁ f₂ → DifferLine f₁ f₂ verdict

abbrev pub PrintedTells : Type 0
PrintedTells = (f₁ f₂ : List ℕ) → (opened f₁ f₂).refusal.number ≡ 0 → Tells f₁ f₂ (printed f₁ f₂)

pub record Refuses (r : Refusal) (text : List ℕ) : Type 0 where
  pub line : List ℕ
  -- one line, ended by a line feed, and nothing after it
  pub split : lines_of text ≡ line ∷ [] ∷ []
  pub words : words_of line ≡ ascii "refused" ∷ decimal r.number ∷ decimal r.file ∷ decimal r.step ∷ []

abbrev pub RefusedLine : Type 0
RefusedLine = (f₁ f₂ : List ℕ) → ¬ ((opened f₁ f₂).refusal.number ≡ 0) → Refuses (opened f₁ f₂).refusal (printed f₁ f₂)

abbrev pub RefusedText : Type 0
RefusedText = (f₁ f₂ : List ℕ) (a : Answer) (n : ℕ) → a.kind ≡ Refused → Refuses a.refusal (report_of f₁ f₂ a n)

pub record Shows (f₁ : List ℕ) (a : Answer) (n : ℕ) (text : List ℕ) : Type 0 where
  -- the line of the verdict
  pub verdict : List ℕ
  -- it stands between the grid and n
  pub lines : ThreeLines f₁ n verdict text
  -- that one word where the kind is Equivalent
  pub equivalent : a.kind ≡ Equivalent → verdict ≡ ascii "equivalent"
  -- where it is Differs, the values that the words of the answer's vector give to the d inputs, and its two outputs
  pub differs : a.kind ≡ Differs → words_of verdict ≡ differ_words (vector_of (sizes_of f₁) a.vector) a.output1 a.output2

abbrev pub ShownAsIs : Type 0
ShownAsIs =
    (f₁ f₂ : List ℕ) →
    (opened f₁ f₂).refusal.number ≡ 0 →
    (a : Answer) (n : ℕ) →
    IsVerdict a →
    Shows f₁ a n (report_of f₁ f₂ a n)

pub record NoText : Type 0 where
  -- a spent answer, whatever the files are
  pub spent : (f₁ f₂ : List ℕ) (a : Answer) (n : ℕ) → a.kind ≡ Spent → report_of f₁ f₂ a n ≡ []
  -- a verdict, where opening is refused
  pub unopened :
      (f₁ f₂ : List ℕ) →
      ¬ ((opened f₁ f₂).refusal.number ≡ 0) →
      (a : Answer) (n : ℕ) →
      IsVerdict a →
      report_of f₁ f₂ a n ≡ []

abbrev pub ReportedInFull : Type 0
ReportedInFull =
    (f₁ f₂ : List ℕ) →
    (opened f₁ f₂).refusal.number ≡ 0 →
    (cs : List Call) →
    Allowed f₁ f₂ (start f₁ f₂) cs →
    (before : List Call) (c : Call) (after : List Call) →
    cs ≡ before ++ c ∷ after →
    let a = (answer_to (session_after (start f₁ f₂) before) c).answer in
    IsVerdict a →
    report_of f₁ f₂ a (vectors_run (answers (start f₁ f₂) cs)) ≡ printed f₁ f₂

abbrev pub RefusedReported : Type 0
RefusedReported =
    (f₁ f₂ : List ℕ) →
    ¬ ((opened f₁ f₂).refusal.number ≡ 0) →
    (B len n : ℕ) →
    0 < B →
    report_of f₁ f₂ (continued f₁ f₂ (opened f₁ f₂).session B len).answer n ≡ printed f₁ f₂

pub record Words (a : Answer) : Type 0 where
  pub number : a.refusal.number < 2 ^ 64
  pub file : a.refusal.file < 2 ^ 64
  pub step : a.refusal.step < 2 ^ 64
  pub inputs : length a.vector ≡ max_inputs
  pub entries : (i : ℕ) → get_or a.vector i 0 < 2 ^ 64
  pub output₁ : a.output1 < 2 ^ 64
  pub output₂ : a.output2 < 2 ^ 64

abbrev pub Fits : Type 0
Fits = (f₁ f₂ : List ℕ) (a : Answer) (n : ℕ) → Words a → n < 2 ^ 64 → length (report_of f₁ f₂ a n) ≤ text_room
