-- Where each word stands, as numbers: the lists of words are written out, so that each offset is read off; past a list of max_inputs entries by
-- the laws of such a list and two more. Assumes nothing.
use mathlib.Core.Path.{refl}
use native.Mathlib.Omega.{arith}
use lib.ListN.{length-append}
use lib.Seq.{take_all}
use Rattle.sessions.specs.declared.Answer.{Answer}
use Rattle.sessions.specs.declared.Session.{Session}
use Rattle.sizes.specs.Sizes.{max_inputs}
use Rattle.sizes.specs.declared.Refusal.{Refusal}
use Rattle.sizes.specs.declared.Sizes.{Sizes}
use Rattle.layouts.specs.AnswerWords.{kind_word, answer_words}
use Rattle.layouts.specs.SessionWords.{mark_word, session_words}
use Rattle.layouts.specs.SizeWords.{size_words}
use Rattle.layouts.specs.Statement.{WholeWidths, WholeVector, RefusalPlaces, SizesPlaces, SessionPlaces, AnswerPlaces, Offsets, WordsOfMarksAndKinds}
use Rattle.layouts.proofs.Entries.{front, next, last}

refusal_places : (r : Refusal) → RefusalPlaces r
refusal_places r = record { count = refl; number = refl; file = refl; step = refl }

sizes_places : (z : Sizes) → WholeWidths z → SizesPlaces z
unfolding size_words
sizes_places z e =
    record { count = omega (arith, e); m = refl; d = refl; widths = take_all max_inputs z.widths (omega (arith, e)) }

session_places : (σ : Session) → WholeWidths σ.sizes → SessionPlaces σ
unfolding session_words size_words
session_places σ e =
    record {
      count = simp length-append (omega (arith, e));
      m = refl;
      d = refl;
      widths = front max_inputs σ.sizes.widths σ.position (mark_word σ.mark) e;
      position = next max_inputs σ.sizes.widths σ.position (mark_word σ.mark) e;
      mark = last max_inputs σ.sizes.widths σ.position (mark_word σ.mark) e;
    }

answer_places : (a : Answer) → WholeVector a → AnswerPlaces a
unfolding answer_words
answer_places a e =
    record {
      count = simp length-append (omega (arith, e));
      number = refl;
      file = refl;
      step = refl;
      kind = refl;
      run = refl;
      vector = front max_inputs a.vector a.output1 a.output2 e;
      output₁ = next max_inputs a.vector a.output1 a.output2 e;
      output₂ = last max_inputs a.vector a.output1 a.output2 e;
    }

pub offsets : Offsets
offsets =
    record {
      m = refl;
      d = refl;
      widths = refl;
      sizes_count = refl;
      position = refl;
      mark = refl;
      session_count = refl;
      number = refl;
      file = refl;
      step = refl;
      refusal_count = refl;
      axes = refl;
      grid_size = refl;
      grid_count = refl;
      kind = refl;
      run = refl;
      vector = refl;
      output₁ = refl;
      output₂ = refl;
      answer_count = refl;
      refusal = refusal_places;
      sizes = sizes_places;
      session = session_places;
      answer = answer_places;
    }

pub words_of_marks_and_kinds : WordsOfMarksAndKinds
unfolding mark_word kind_word
words_of_marks_and_kinds =
    record { unsettled = refl; equal = refl; differ = refl; refused = refl; spent = refl; equivalent = refl; differs = refl }
