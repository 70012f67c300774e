-- Refusals, and the answers of continue calls, as words.
--   refusal_words r       the words of the refusal r: number (0: accepted), file, step
--   refusal_from w        the refusal that the first words give
--   kind_word, kind_from   what a continue call came to: 0 refused, 1 spent, 2 equivalent, 3 differs
--   answer_words a        the words of the answer a: the refusal, kind, vectors run, the vector, output of file 1, output of file 2
--   answer_fits w         the words are an answer: there are answer_length of them, and the kind is 0 to 3
--   answer_from w         the answer that the words give
use Rattle.std.specs.Prelude.{Bool, cond, ◌&&◌, List, [], ◌∷◌, ◌++◌, ℕ, leb, eqb, length, take, drop}
use Rattle.sessions.specs.declared.Answer.{Answer}
use Rattle.sessions.specs.declared.Kind.{Kind}
use Rattle.sessions.specs.declared.Kind.TheVariants.{Refused, Spent, Equivalent, Differs}
use Rattle.sizes.specs.Sizes.{max_inputs}
use Rattle.sizes.specs.declared.Refusal.{Refusal}
use Rattle.layouts.specs.Lengths.{word_at, at_number, at_file, at_step, at_kind, at_run, at_vector, at_output₁, at_output₂, answer_length}

abbrev pub refusal_words : Refusal → List ℕ
refusal_words r = r.number ∷ r.file ∷ r.step ∷ []

abbrev pub refusal_from : List ℕ → Refusal
refusal_from w = record { number = word_at w at_number; file = word_at w at_file; step = word_at w at_step }

unfoldable pub kind_word : Kind → ℕ
kind_word Refused = 0
kind_word Spent = 1
kind_word Equivalent = 2
kind_word Differs = 3

unfoldable pub kind_from : ℕ → Kind
kind_from k = cond (eqb k 0) Refused (cond (eqb k 1) Spent (cond (eqb k 2) Equivalent Differs))

unfoldable pub answer_words : Answer → List ℕ
answer_words a =
    refusal_words a.refusal ++
    (kind_word a.kind ∷ a.run ∷ (a.vector ++ (a.output1 ∷ a.output2 ∷ [])))

unfoldable pub answer_fits : List ℕ → Bool
answer_fits w = eqb (length w) answer_length && leb (word_at w at_kind) 3

unfoldable pub answer_from : List ℕ → Answer
answer_from w =
    record {
      refusal = refusal_from w;
      kind = kind_from (word_at w at_kind);
      run = word_at w at_run;
      vector = take max_inputs (drop at_vector w);
      output1 = word_at w at_output₁;
      output2 = word_at w at_output₂;
    }
