-- Answers as words: the first five are the refusal, the kind, whose word is one of four, and the count; then come the vector and two more.
-- A vector that is shown is one of the grid's, padded to max_inputs entries. Assumes nothing.
use mathlib.Core.Bool.{true, false}
use mathlib.Core.List.{List, [], ◌∷◌, ◌++◌, map}
use mathlib.Core.Logic.{⊎_elim}
use mathlib.Core.Path.{◌≡◌, refl, ◌∙◌, ap}
use Prim.Native.Nat.{ℕ, zero, suc, ◌+◌, ◌≤◌}
use native.Mathlib.Omega.{arith}
use lib.ListN.{length, get_or, take, length-append, length-map}
use Rattle.fields.specs.File.{sizes_of}
use Rattle.grid.specs.Grid.{grid_vector}
use Rattle.grid.proofs.Grids.{length-axes-most}
use Rattle.ranges.proofs.Search.{true_or_false}
use Rattle.sessions.specs.Session.{continue_refusal, refused_answer, plain_answer, differs_answer, progress, advanced, continued}
use Rattle.sessions.specs.declared.Answer.{Answer}
use Rattle.sessions.specs.declared.Kind.{Kind}
use Rattle.sessions.specs.declared.Kind.TheVariants.{Refused, Spent, Equivalent, Differs}
use Rattle.sessions.specs.declared.Continued.{Continued}
use Rattle.sessions.specs.declared.Session.{Session}
use Rattle.sessions.proofs.Cases.{passed, progress-each}
use Rattle.sessions.proofs.Pair.{comparable}
use Rattle.sizes.specs.Sizes.{max_inputs, is_refusal}
use Rattle.sizes.proofs.Padded.{length-padded}
use Rattle.vectors.proofs.GridWords.{length-grid-vector}
use Rattle.words.specs.Words.{word}
use Rattle.layouts.specs.AnswerWords.{kind_word, kind_from, answer_words, answer_from}
use Rattle.layouts.specs.Lengths.{word_at, at_kind, answer_length}
use Rattle.layouts.specs.Statement.{WholeVector, AnswersAsWords}
use Rattle.layouts.proofs.Entries.{two-last, front, next, last}
use Rattle.layouts.proofs.Told.{AnswerTold, answer-told, answer-fits}

kind-decoded : (k : Kind) → kind_from (kind_word k) ≡ k
unfolding kind_word kind_from
kind-decoded Refused = refl
kind-decoded Spent = refl
kind-decoded Equivalent = refl
kind-decoded Differs = refl

kind-most : (k : Kind) → kind_word k ≤ 3
unfolding kind_word
kind-most Refused = omega arith
kind-most Spent = omega arith
kind-most Equivalent = omega arith
kind-most Differs = omega arith

kind-restored : (k : ℕ) → k ≤ 3 → kind_word (kind_from k) ≡ k
unfolding kind_word kind_from
kind-restored zero l = refl
kind-restored (suc zero) l = refl
kind-restored (suc (suc zero)) l = refl
kind-restored (suc (suc (suc zero))) l = refl
kind-restored (suc (suc (suc (suc k)))) l = absurd (omega arith)

split : (w : List ℕ) → AnswerTold w → answer_words (answer_from w) ≡ w
unfolding answer_words answer_from
split [] t = absurd (omega (arith, t.long))
split (n ∷ []) t = absurd (omega (arith, t.long))
split (n ∷ f ∷ []) t = absurd (omega (arith, t.long))
split (n ∷ f ∷ s ∷ []) t = absurd (omega (arith, t.long))
split (n ∷ f ∷ s ∷ k ∷ []) t = absurd (omega (arith, t.long))
split (n ∷ f ∷ s ∷ k ∷ r ∷ l) t =
    ap (λ j. n ∷ f ∷ s ∷ j ∷ r ∷ (take max_inputs l ++ (get_or l max_inputs 0 ∷ get_or l (max_inputs + 1) 0 ∷ []))) (kind-restored k t.kind)
    ∙ ap (λ j. n ∷ f ∷ s ∷ k ∷ r ∷ j) (two-last max_inputs l (omega (arith, t.long)))

module _ (a : Answer) (whole : WholeVector a) where
  length-answer : length (answer_words a) ≡ answer_length
  unfolding answer_words
  length-answer = simp length-append (omega (arith, whole))

  kind_at : word_at (answer_words a) at_kind ≤ 3
  unfolding answer_words
  kind_at = kind-most a.kind

  fit : AnswerTold (answer_words a)
  fit = record { long = length-answer; kind = kind_at }

  again : answer_from (answer_words a) ≡ a
  unfolding answer_words answer_from
  again =
      λ i.
      record {
        refusal = a.refusal;
        kind = kind-decoded a.kind i;
        run = a.run;
        vector = front max_inputs a.vector a.output1 a.output2 whole i;
        output1 = next max_inputs a.vector a.output1 a.output2 whole i;
        output2 = last max_inputs a.vector a.output1 a.output2 whole i;
      }

progress-vector :
    (s₁ s₂ : List ℕ) (σ : Session) (B G q : ℕ) → (sizes_of s₁).d ≤ max_inputs → WholeVector (progress s₁ s₂ σ B G q).answer
unfolding differs_answer plain_answer
progress-vector s₁ s₂ σ B G q high =
    progress-each (λ (c : Continued). WholeVector c.answer) s₁ s₂ σ B G q
    (length-padded (map word (grid_vector (sizes_of s₁) q))
    (omega (arith, length-map (grid_vector (sizes_of s₁) q) word, length-grid-vector (sizes_of s₁) q, length-axes-most (sizes_of s₁))))
    refl
    refl

continued-vector : (f₁ f₂ : List ℕ) (σ : Session) (B len : ℕ) → WholeVector (continued f₁ f₂ σ B len).answer
unfolding continued advanced refused_answer
continued-vector f₁ f₂ σ B len =
    ⊎_elim
    (λ (e : is_refusal (continue_refusal f₁ f₂ σ B len) ≡ true). rw e)
    (λ (e : is_refusal (continue_refusal f₁ f₂ σ B len) ≡ false).
    rw e (progress-vector f₁ f₂ σ B _ _ (comparable f₁ f₂ (passed f₁ f₂ σ B len e).pair).sound₁.inputs_high))
    (true_or_false (is_refusal (continue_refusal f₁ f₂ σ B len)))

pub answers_as_words : AnswersAsWords
answers_as_words =
    record {
      restored = λ w e. split w (answer-told w e);
      fits = λ a whole. answer-fits (answer_words a) (fit a whole);
      decoded = again;
      continued = continued-vector;
    }
