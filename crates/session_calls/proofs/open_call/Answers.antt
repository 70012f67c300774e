-- `session_calls::open_call` meets its contract: the session and the refusal that opening answers, as words.
-- Assumes nothing.
use mathlib.Core.Path.{refl, sym, ◌∙◌, ap}
use Rattle.layouts.specs.AnswerWords.{refusal_words}
use Rattle.layouts.specs.Lengths.{refusal_length}
use Rattle.layouts.specs.SessionWords.{session_words}
use Rattle.layouts.proofs.Written.{all-written}
use Rattle.sessions.proofs.Pair.{opened-accepts, opened_refused}
use Rattle.sizes.proofs.Answered.{ok-accepts, ok-value, err-refuses, err-refusal}
use Rattle.session_calls.proofs.Calls.{open_session-wrong, open_out-wrong, open_laid, open_wrong, open_right}
use Rattle.session_calls.proofs.open_call.Goals as goal

pub returns-then-session-ne-SESSION_LENGTH : goal.returns-then-session-ne-SESSION_LENGTH
returns-then-session-ne-SESSION_LENGTH c = open_wrong _ _ _ _ (open_session-wrong _ _ c.if-session-ne-SESSION_LENGTH.true)

pub returns-then-out-ne-REFUSAL_LENGTH : goal.returns-then-out-ne-REFUSAL_LENGTH
returns-then-out-ne-REFUSAL_LENGTH c = open_wrong _ _ _ _ (open_out-wrong _ _ c.if-session-ne-SESSION_LENGTH.false c.if-out-ne-REFUSAL_LENGTH.true)

pub returns-in-Ok : goal.returns-in-Ok
returns-in-Ok c =
    let long = c.if-out-ne-REFUSAL_LENGTH.false in
    let e = sym c.in-Ok.is ∙ c.open_session.ensures in
    open_right _ _ _ _ _ _ (open_laid _ _ c.if-session-ne-SESSION_LENGTH.false long)
    (c.put_session.ensures ∙ ap session_words (ok-value _ _ _ e))
    (c.put_refusal.ensures
    ∙ all-written refusal_length _ c.args.out.now refl long
    ∙ ap refusal_words (sym (opened-accepts _ _ (ok-accepts _ _ _ e))))

pub returns-in-Err : goal.returns-in-Err
returns-in-Err c =
    let long = c.if-out-ne-REFUSAL_LENGTH.false in
    let e = sym c.in-Err.is ∙ c.open_session.ensures in
    open_right _ _ _ _ _ _ (open_laid _ _ c.if-session-ne-SESSION_LENGTH.false long)
    (c.put_session-in-Err.ensures ∙ ap session_words (c.no_session.ensures ∙ sym (opened_refused _ _ (err-refuses _ _ _ e))))
    (c.put_refusal-in-Err.ensures ∙ all-written refusal_length _ c.args.out.now refl long ∙ ap refusal_words (err-refusal _ _ _ e))
