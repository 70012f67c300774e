-- `file_calls::check_call` meets its contract: the answer of `check`, as words.
-- Assumes nothing.
use mathlib.Core.Path.{refl, ◌∙◌, ap}
use borrow.Author.Tests.{eq-eqb}
use Rattle.file.proofs.Number.{refusal-accepts}
use Rattle.layouts.specs.AnswerWords.{refusal_words}
use Rattle.layouts.specs.Lengths.{refusal_length}
use Rattle.layouts.proofs.Written.{all-written}
use Rattle.sizes.specs.Answered.{refusal_in}
use Rattle.sizes.proofs.Answered.{refusal_in_answered}
use Rattle.file_calls.proofs.check_call.Goals as goal

pub returns : goal.returns
returns c =
    let long = c.if-out-ne-REFUSAL_LENGTH.false in
    let f = c.args.file.now in
    let e = eq-eqb _ refusal_length long in
    record {
      result = rw e;
      out =
          rw e
          (c.put_refusal.ensures ∙ all-written refusal_length _ c.args.out.now refl long
          ∙ ap (λ r. refusal_words (refusal_in r)) c.check.ensures
          ∙ ap refusal_words (refusal_in_answered _ tt (refusal-accepts f 1)));
    }
