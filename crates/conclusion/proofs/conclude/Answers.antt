-- `conclusion::conclude` meets its contract. The invariant: the calls made so far have led to the current session, and the stop is not
-- reached. The measure is what is left to the stop.
use mathlib.Core.Path.{◌≡◌, refl}
use native.Mathlib.Omega.{arith}
use Rattle.sessions.proofs.Pair.{pair-accepted, comparable}
use Rattle.sessions.specs.Calls.{answer_to}
use Rattle.conclusion.specs.Conclusion.{own_call}
use Rattle.conclusion.proofs.Trail.{trail_start, trail_step, trail_end}
use Rattle.conclusion.proofs.Turn.{Turned, under_start, turned}
use borrow.Author.Rules.{rules}
use Rattle.conclusion.proofs.conclude.Goals.{After-continue_session-next}
use Rattle.conclusion.proofs.conclude.Goals as goal

turn :
    (c : After-continue_session-next) →
    let a = c.args in
    Turned a.file1.now a.file2.now c.loop-current.run c.continue_session-next.result
turn c =
    let files = comparable _ _ (pair-accepted c.args.file1.now c.args.file2.now c.requires.file2_value) in
    rw c.continue_session-next.ensures.answer
    (turned _ _ c.requires.file2_value _ _ c.loop-current.invariant.0 _ _ (omega arith)
    (omega (arith, files.sound₁.count_high, files.sound₂.count_high, c.requires.scratch_len, c.loop-current.invariant.2)))

-- the call is one of the program's own
called :
    (c : After-continue_session-next) →
    let a = c.args in
    c.continue_session-next.result ≡ answer_to c.loop-current.current (own_call a.file1.now a.file2.now)
unfolding answer_to
called c = rw (c.loop-current.invariant.2, c.requires.scratch_len) at c.continue_session-next.ensures.answer

pub loop-current-init : goal.loop-current-init
loop-current-init c = (rw c.requires.session_value (under_start _ _ c.requires.file2_value), rw c.requires.session_value (trail_start _ _), refl)

pub overflow_add-run : goal.overflow_add-run
overflow_add-run c = omega (arith, (turn (goal.at.overflow_add-run c).After-continue_session-next).counted)

pub loop-current-smaller : goal.loop-current-smaller
loop-current-smaller c = let t = (turn (goal.at.loop-current-smaller c).After-continue_session-next).onward c.in-Open.is in omega (arith, t.0.below, t.1)

pub loop-current-preserved : goal.loop-current-preserved
loop-current-preserved c = (((turn (goal.at.loop-current-preserved c).After-continue_session-next).onward c.in-Open.is).0, trail_step _ _ _ _ c.loop-current.invariant.1 _ (called (goal.at.loop-current-preserved c).After-continue_session-next), search rules)

pub returns-in_default : goal.returns-in_default
returns-in_default c =
    trail_end _ _ _ _ c.loop-current.invariant.1 _ (called (goal.at.returns-in_default c).After-continue_session-next)
    ((turn (goal.at.returns-in_default c).After-continue_session-next).finished c.in_default.not-Open)
