-- `report_calls::report_call` meets its contract: the text of the answer that the words give, where they give one.
-- Assumes nothing.
use mathlib.Core.Path.{refl, sym, ◌∙◌, ap}
use native.Mathlib.Omega.{arith}
use Rattle.layouts.proofs.Given.{some_fits, some_value, none_fits}
use Rattle.report_calls.proofs.Reports.{one-written, answer-wrong, out-wrong, no_kind, told}
use Rattle.report_calls.proofs.report_call.Goals.{in-Some, in-None}
use Rattle.report_calls.proofs.report_call.Goals as goal

pub returns-then-answer-ne-ANSWER_LENGTH : goal.returns-then-answer-ne-ANSWER_LENGTH
returns-then-answer-ne-ANSWER_LENGTH c = answer-wrong _ _ _ _ _ _ c.if-answer-ne-ANSWER_LENGTH.true

pub returns-then-out-ne-REPORT_LENGTH : goal.returns-then-out-ne-REPORT_LENGTH
returns-then-out-ne-REPORT_LENGTH c = out-wrong _ _ _ _ _ _ c.if-answer-ne-ANSWER_LENGTH.false (omega arith) c.if-out-ne-REPORT_LENGTH.true

pub returns : goal.returns
returns c =
    let long = c.if-answer-ne-ANSWER_LENGTH.false in
    let one = c.if-out-ne-REPORT_LENGTH.false in
    elim c.match-answer_given.branch [
      | in-Some w ↦
          let given = sym w.in-Some.is ∙ c.answer_given.ensures in
          rw (w.text-is, w.out-is)
          (told _ _ _ _ _ _ long (omega arith) one (some_fits _ _ _ given) _ (some_value _ _ _ given) _ _ _ w.report.ensures (one-written _ _ one))
      | in-None w ↦
          rw (w.text-is, w.out-is)
          (no_kind _ _ _ _ _ _ long (omega arith) one (none_fits _ _ (sym w.in-None.is ∙ c.answer_given.ensures)) _ (one-written _ _ one))
    ]
