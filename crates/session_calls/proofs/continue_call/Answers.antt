-- `session_calls::continue_call` meets its contract: the answer of `continue_session` on the session that the words give, as words, and the
-- scratch slice as that call leaves it. Assumes nothing.
use mathlib.Core.Path.{sym, ◌∙◌, ap}
use lib.ListN.{length}
use Rattle.layouts.specs.AnswerWords.{answer_words}
use Rattle.layouts.specs.SessionWords.{session_words}
use Rattle.layouts.proofs.Given.{some_fits, some_value, none_fits}
use Rattle.layouts.proofs.Told.{session-told}
use Rattle.sessions.specs.Session.{continued, continued_scratch}
use Rattle.sessions.specs.declared.Continued.{Continued}
use Rattle.session_calls.proofs.Calls.{continue_answer-wrong, continue_judged, continue_wrong, continue_right}
use Rattle.session_calls.proofs.continue_call.Goals as goal

pub returns-then-answer-ne-ANSWER_LENGTH : goal.returns-then-answer-ne-ANSWER_LENGTH
returns-then-answer-ne-ANSWER_LENGTH c = continue_wrong _ _ _ _ _ _ (continue_answer-wrong _ _ c.if-answer-ne-ANSWER_LENGTH.true)

pub returns-in_default : goal.returns-in_default
returns-in_default c =
    continue_wrong _ _ _ _ _ _
    (continue_judged _ _ c.if-answer-ne-ANSWER_LENGTH.false ∙ none_fits _ _ (sym c.in_default.is ∙ c.session_given.ensures))

pub put_session-requires : goal.put_session-requires
put_session-requires c = (session-told _ (some_fits _ _ _ (sym c.in-Some.is ∙ c.session_given.ensures))).long

pub returns : goal.returns
returns c =
    let a = c.args in
    let told = sym c.in-Some.is ∙ c.session_given.ensures in
    let given = some_value _ _ _ told in
    let next = c.continue_session-next.ensures in
    let r = next.answer ∙ ap (λ y. continued a.file1.now a.file2.now y a.budget (length a.scratch.now)) given in
    continue_right _ _ _ _ _ _ _ _ _
    (continue_judged _ _ c.if-answer-ne-ANSWER_LENGTH.false ∙ some_fits _ _ _ told)
    (c.put_session.ensures ∙ ap (λ (k : Continued). session_words k.session) r)
    (next.scratch ∙ ap (λ y. continued_scratch a.file1.now a.file2.now y a.budget a.scratch.now) given)
    (c.put_answer.ensures ∙ ap (λ (k : Continued). answer_words k.answer) r)
