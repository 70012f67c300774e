-- `answer_words::put_answer` meets its contract: the five words before the vector, the vector into the part from there on, and the two words
-- after it. Assumes nothing.
use mathlib.Core.List.{List, [], ◌∷◌, ◌++◌}
use mathlib.Core.Path.{◌≡◌, refl, ◌∙◌, ap}
use Prim.Native.Nat.{ℕ, ◌-◌}
use native.Mathlib.Omega.{arith}
use borrow.Author.Rules.{rules}
use lib.ListN.{length, take, drop, set, length-drop}
use lib.Seq.{take_all}
use Rattle.layouts.specs.AnswerWords.{kind_word, answer_words}
use Rattle.layouts.specs.Lengths.{at_vector, at_output₁, at_output₂, answer_length}
use Rattle.layouts.specs.Statement.{WholeVector}
use Rattle.layouts.proofs.Entries.{two-written}
use Rattle.layouts.proofs.Written.{part_whole, part_back}
use Rattle.sessions.specs.declared.Answer.{Answer}
use Rattle.sizes.specs.Sizes.{max_inputs}
use Rattle.slices.specs.Slices.{overwritten}
use Rattle.answer_words.proofs.put_answer.Goals.{Start}
use Rattle.answer_words.proofs.put_answer.Goals as goal

-- the words before the vector, with the kind's word k
abbrev head : Answer → ℕ → List ℕ → List ℕ
head a k rest = a.refusal.number ∷ a.refusal.file ∷ a.refusal.step ∷ k ∷ a.run ∷ rest

written :
    (a : Answer) (entry out part : List ℕ) (k : ℕ) → WholeVector a → length entry ≡ answer_length →
    out ≡ overwritten at_vector (head a k []) entry →
    part ≡ overwritten max_inputs a.vector (take (length out - at_vector) (drop at_vector out)) → k ≡ kind_word a.kind →
    set (set (take at_vector out ++ (part ++ drop (length out - at_vector) (drop at_vector out))) at_output₁ a.output1) at_output₂ a.output2
    ≡ answer_words a
unfolding answer_words
written a entry out part k e l p q r =
    let v = a.vector in
    let rest = drop max_inputs (drop at_vector entry) in
    ap (λ o. set (set o at_output₁ a.output1) at_output₂ a.output2)
    (part_back at_vector (length out - at_vector) out refl part
    ∙ ap (λ o. take at_vector out ++ o) (q ∙ ap (overwritten max_inputs v) (part_whole at_vector (length out - at_vector) out refl))
    ∙ ap (λ o. take at_vector o ++ overwritten max_inputs v (drop at_vector o)) p
    ∙ ap (λ o. head a k (o ++ rest)) (take_all max_inputs v (omega arith)))
    ∙ ap (head a k) (two-written max_inputs v rest a.output1 a.output2 e (simp (length-drop) (omega arith)))
    ∙ ap (λ j. head a j (v ++ (a.output1 ∷ a.output2 ∷ []))) r

whole : (c : Start) → WholeVector c.args.a
whole c = search rules

pub returns : goal.returns
returns c =
    written c.args.a c.args.out.now _ _ _ (whole (goal.at.returns c).Start) c.requires c.copy_front.ensures c.copy_front-2.ensures
    c.kind_word.ensures
