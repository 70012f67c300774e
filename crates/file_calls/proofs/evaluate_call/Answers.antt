-- `file_calls::evaluate_call` meets its contract: the answer of `evaluate`, as words, and the scratch slice as that call leaves it.
-- Assumes nothing.
use mathlib.Core.Path.{refl, sym, ◌∙◌, ap}
use borrow.Author.Tests.{eq-eqb}
use Rattle.evaluate.proofs.Answers.{told-ok, told-err}
use Rattle.file_calls.specs.FileCalls.{evaluate_length, evaluate_words}
use Rattle.layouts.proofs.Written.{all-written}
use Rattle.file_calls.proofs.evaluate_call.Goals as goal

pub returns-in-Ok : goal.returns-in-Ok
returns-in-Ok c =
    let long = c.if-out-ne-EVALUATE_LENGTH.false in
    let e = eq-eqb _ evaluate_length long in
    let told = told-ok _ _ _ _ (sym c.in-Ok.is ∙ c.evaluate.ensures.answer) in
    record {
      result = rw e;
      out = rw e (c.copy_front.ensures ∙ all-written evaluate_length _ c.args.out.now refl long ∙ sym (ap evaluate_words told));
      scratch = rw e c.evaluate.ensures.scratch;
    }

pub returns-in-Err : goal.returns-in-Err
returns-in-Err c =
    let long = c.if-out-ne-EVALUATE_LENGTH.false in
    let e = eq-eqb _ evaluate_length long in
    let told = told-err _ _ _ _ (sym c.in-Err.is ∙ c.evaluate.ensures.answer) in
    record {
      result = rw e;
      out = rw e (c.copy_front-in-Err.ensures ∙ all-written evaluate_length _ c.args.out.now refl long ∙ sym (ap evaluate_words told));
      scratch = rw e c.evaluate.ensures.scratch;
    }
