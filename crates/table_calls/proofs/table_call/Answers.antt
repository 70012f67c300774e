-- `table_calls::table_call` meets its contract: the answer of `make_table`, as words, and the slices as that call leaves them.
-- Assumes nothing.
use mathlib.Core.Path.{refl, ◌∙◌, ap}
use borrow.Author.Tests.{eq-eqb, ne_eqb}
use Rattle.file_tables.proofs.Answers.{table-accepts}
use Rattle.layouts.specs.AnswerWords.{refusal_words}
use Rattle.layouts.specs.Lengths.{refusal_length}
use Rattle.layouts.proofs.Written.{all-written}
use Rattle.sizes.specs.Answered.{refusal_in}
use Rattle.sizes.proofs.Answered.{refusal_in_answered}
use Rattle.table_calls.proofs.table_call.Goals as goal

pub returns-then-out-ne-REFUSAL_LENGTH : goal.returns-then-out-ne-REFUSAL_LENGTH
returns-then-out-ne-REFUSAL_LENGTH c = let e = ne_eqb _ refusal_length c.if-out-ne-REFUSAL_LENGTH.true in record { result = rw e; out = rw e; table = rw e; scratch = rw e }

pub returns : goal.returns
returns c =
    let long = c.if-out-ne-REFUSAL_LENGTH.false in
    let out = c.args.out.now in
    let e = eq-eqb _ refusal_length long in
    record {
      result = rw e;
      out = rw e (c.put_refusal.ensures ∙ all-written refusal_length _ out refl long ∙
          ap (λ r. refusal_words (refusal_in r)) c.make_table.ensures.answer
          ∙ ap refusal_words (refusal_in_answered _ tt (table-accepts _ _ _)));
      table = rw e c.make_table.ensures.table;
      scratch = rw e c.make_table.ensures.scratch;
    }
