-- `answer_words::answer_from` meets its contract: field by field; the vector is copied from a part of the words.
-- Assumes nothing.
use mathlib.Core.List.{append-nil}
use mathlib.Core.Path.{refl, ◌∙◌, ap}
use Prim.Native.Nat.{◌-◌}
use lib.ListN.{length, take}
use Rattle.layouts.specs.AnswerWords.{refusal_from, answer_from}
use Rattle.layouts.specs.Lengths.{word_at, at_run, at_vector, at_output₁, at_output₂}
use Rattle.layouts.proofs.Written.{part_whole}
use Rattle.sizes.specs.Sizes.{max_inputs}
use Rattle.answer_words.proofs.answer_from.Goals as goal

pub returns : goal.returns
unfolding answer_from
returns c =
    let w = c.args.words.now in
    let vector =
    c.copy_front.ensures ∙ append-nil _ ∙ ap (take max_inputs) (part_whole at_vector (length w - at_vector) w refl) in
    λ i.
    record {
      refusal = refusal_from w;
      kind = c.kind_from.ensures i;
      run = word_at w at_run;
      vector = vector i;
      output1 = word_at w at_output₁;
      output2 = word_at w at_output₂;
    }
