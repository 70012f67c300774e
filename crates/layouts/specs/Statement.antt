-- What is claimed of the layouts: where each word stands, that reading words undoes writing them, and that writing undoes reading. Each
-- statement is proved in proofs/, under the same name with a small first letter.
--   Offsets                 the offsets and the lengths of the C header as numbers, and what stands there:
--     refusal, sizes, session, answer    of any refusal, and of sizes, sessions and answers with max_inputs width bytes and words of a vector
--   RefusalPlaces, SizesPlaces, SessionPlaces, AnswerPlaces
--                           what stands there, field by field: `count` is the number of words, the others are named as what stands there
--   WordsOfMarksAndKinds    the words of the marks and of the kinds as numbers
--   SizesAsWords
--     restored    words that are sizes come back as they were
--     fits        the words of sizes that the struct can hold are sizes
--     decoded     and give these sizes
--   SessionsAsWords
--     restored, fits, decoded   the same of sessions with such sizes, at any position and under any mark
--     given       a session that words give has such sizes
--     opened      and so has the session of every opening, accepted or refused
--     continued   and the session that every continue call of such a session hands back
--   AnswersAsWords
--     restored    words that are an answer come back as they were
--     fits        the words of an answer whose vector has max_inputs entries are an answer
--     decoded     and give this answer
--     continued   the answer of every continue call has such a vector
use Rattle.std.specs.Prelude.{true, List, ◌≡◌, ℕ, length, take, drop}
use Rattle.sessions.specs.Session.{opened, continued}
use Rattle.sessions.specs.declared.Answer.{Answer}
use Rattle.sessions.specs.declared.Kind.TheVariants.{Refused, Spent, Equivalent, Differs}
use Rattle.sessions.specs.declared.Mark.TheVariants.{Open, Equal, Differ}
use Rattle.sessions.specs.declared.Session.{Session}
use Rattle.sizes.specs.Sizes.{max_inputs}
use Rattle.sizes.specs.declared.Refusal.{Refusal}
use Rattle.sizes.specs.declared.Sizes.{Sizes}
use Rattle.layouts.specs.AnswerWords.{refusal_words, kind_word, answer_words, answer_fits, answer_from}
use Rattle.layouts.specs.Lengths.{word_at, at_m, at_d, at_widths, sizes_length, at_position, at_mark, session_length}
use Rattle.layouts.specs.Lengths.{at_number, at_file, at_step, refusal_length, at_axes, at_grid_size, grid_length, at_kind, at_run, at_vector, at_output₁, at_output₂, answer_length}
use Rattle.layouts.specs.SessionWords.{mark_word, session_words, session_fits, session_from}
use Rattle.layouts.specs.SizeWords.{size_words, sizes_fit, sizes_from, ByteSizes}

pub record SizesAsWords : Type 0 where
  pub restored : (w : List ℕ) → sizes_fit w ≡ true → size_words (sizes_from w) ≡ w
  pub fits : (z : Sizes) → ByteSizes z → sizes_fit (size_words z) ≡ true
  pub decoded : (z : Sizes) → ByteSizes z → sizes_from (size_words z) ≡ z

-- the session has sizes that the struct can hold
abbrev pub ByteSession : Session → Type 0
ByteSession σ = ByteSizes σ.sizes

pub record SessionsAsWords : Type 0 where
  pub restored : (w : List ℕ) → session_fits w ≡ true → session_words (session_from w) ≡ w
  pub fits : (σ : Session) → ByteSession σ → session_fits (session_words σ) ≡ true
  pub decoded : (σ : Session) → ByteSession σ → session_from (session_words σ) ≡ σ
  pub given : (w : List ℕ) → session_fits w ≡ true → ByteSession (session_from w)
  pub opened : (f₁ f₂ : List ℕ) → ByteSession (opened f₁ f₂).session
  pub continued :
      (f₁ f₂ : List ℕ) (σ : Session) (B len : ℕ) → ByteSession σ → ByteSession (continued f₁ f₂ σ B len).session

-- the answer's vector has an entry for each input that a file may have
abbrev pub WholeVector : Answer → Type 0
WholeVector a = length a.vector ≡ max_inputs

pub record AnswersAsWords : Type 0 where
  pub restored : (w : List ℕ) → answer_fits w ≡ true → answer_words (answer_from w) ≡ w
  pub fits : (a : Answer) → WholeVector a → answer_fits (answer_words a) ≡ true
  pub decoded : (a : Answer) → WholeVector a → answer_from (answer_words a) ≡ a
  pub continued : (f₁ f₂ : List ℕ) (σ : Session) (B len : ℕ) → WholeVector (continued f₁ f₂ σ B len).answer

pub record RefusalPlaces (r : Refusal) : Type 0 where
  pub count : length (refusal_words r) ≡ refusal_length
  pub number : word_at (refusal_words r) at_number ≡ r.number
  pub file : word_at (refusal_words r) at_file ≡ r.file
  pub step : word_at (refusal_words r) at_step ≡ r.step

-- the sizes have a width byte for each input that a file may have
abbrev pub WholeWidths : Sizes → Type 0
WholeWidths z = length z.widths ≡ max_inputs

pub record SizesPlaces (z : Sizes) : Type 0 where
  pub count : length (size_words z) ≡ sizes_length
  pub m : word_at (size_words z) at_m ≡ z.m
  pub d : word_at (size_words z) at_d ≡ z.d
  pub widths : take max_inputs (drop at_widths (size_words z)) ≡ z.widths

pub record SessionPlaces (σ : Session) : Type 0 where
  pub count : length (session_words σ) ≡ session_length
  pub m : word_at (session_words σ) at_m ≡ σ.sizes.m
  pub d : word_at (session_words σ) at_d ≡ σ.sizes.d
  pub widths : take max_inputs (drop at_widths (session_words σ)) ≡ σ.sizes.widths
  pub position : word_at (session_words σ) at_position ≡ σ.position
  pub mark : word_at (session_words σ) at_mark ≡ mark_word σ.mark

pub record AnswerPlaces (a : Answer) : Type 0 where
  pub count : length (answer_words a) ≡ answer_length
  pub number : word_at (answer_words a) at_number ≡ a.refusal.number
  pub file : word_at (answer_words a) at_file ≡ a.refusal.file
  pub step : word_at (answer_words a) at_step ≡ a.refusal.step
  pub kind : word_at (answer_words a) at_kind ≡ kind_word a.kind
  pub run : word_at (answer_words a) at_run ≡ a.run
  pub vector : take max_inputs (drop at_vector (answer_words a)) ≡ a.vector
  pub output₁ : word_at (answer_words a) at_output₁ ≡ a.output1
  pub output₂ : word_at (answer_words a) at_output₂ ≡ a.output2

pub record Offsets : Type 0 where
  pub m : at_m ≡ 0
  pub d : at_d ≡ 1
  pub widths : at_widths ≡ 2
  pub sizes_count : sizes_length ≡ 12
  pub position : at_position ≡ 12
  pub mark : at_mark ≡ 13
  pub session_count : session_length ≡ 14
  pub number : at_number ≡ 0
  pub file : at_file ≡ 1
  pub step : at_step ≡ 2
  pub refusal_count : refusal_length ≡ 3
  pub axes : at_axes ≡ 3
  pub grid_size : at_grid_size ≡ 13
  pub grid_count : grid_length ≡ 14
  pub kind : at_kind ≡ 3
  pub run : at_run ≡ 4
  pub vector : at_vector ≡ 5
  pub output₁ : at_output₁ ≡ 15
  pub output₂ : at_output₂ ≡ 16
  pub answer_count : answer_length ≡ 17
  pub refusal : (r : Refusal) → RefusalPlaces r
  pub sizes : (z : Sizes) → WholeWidths z → SizesPlaces z
  pub session : (σ : Session) → WholeWidths σ.sizes → SessionPlaces σ
  pub answer : (a : Answer) → WholeVector a → AnswerPlaces a

pub record WordsOfMarksAndKinds : Type 0 where
  pub unsettled : mark_word Open ≡ 0
  pub equal : mark_word Equal ≡ 1
  pub differ : mark_word Differ ≡ 2
  pub refused : kind_word Refused ≡ 0
  pub spent : kind_word Spent ≡ 1
  pub equivalent : kind_word Equivalent ≡ 2
  pub differs : kind_word Differs ≡ 3
