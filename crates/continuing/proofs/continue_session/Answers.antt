-- `continuing::continue_session` meets its contract: a refusal, or an accepted call.
-- Assumes nothing.
use mathlib.Core.Bool.{true, false}
use mathlib.Core.List.{◌++◌}
use mathlib.Core.Path.{◌≡◌, sym, ◌∙◌, ap, ap₂}
use Prim.Native.Nat.{◌≤◌, max}
use native.Mathlib.Omega.{arith}
use borrow.Author.Tests.{eq-eqb, ne_eqb}
use lib.ListN.{length, drop, replicate}
use lib.Seq.{length-take-le}
use Rattle.engine.specs.Engine.{larger_count}
use Rattle.plan.specs.Plan.{Planned}
use Rattle.plan.proofs.Numbers as plan
use Rattle.sessions.specs.Session.{continue_refusal, refused_answer}
use Rattle.sessions.proofs.Cases.{handed, Passed, passed, continued-refused, continued-accepted, scratch-refused, scratch-accepted}
use Rattle.sessions.proofs.Pair.{comparable}
use Rattle.sizes.proofs.Answered.{ok-number, ok-value, err-number, err-refusal}
use Rattle.sizes.specs.Sizes.{is_refusal}
use Rattle.continuing.proofs.continue_session.Goals.{In-Ok, After-max}
use Rattle.continuing.proofs.continue_session.Goals as goal

accepting :
    (c : In-Ok) →
    let a = c.args in
    is_refusal (continue_refusal a.file1.now a.file2.now a.session a.budget (length a.scratch.now)) ≡ false
accepting c = rw (eq-eqb _ 0 (ok-number _ _ _ c.in-Ok.ensures))

pass : (c : In-Ok) → let a = c.args in Passed a.file1.now a.file2.now a.session a.budget (length a.scratch.now)
pass c = passed _ _ _ _ _ (accepting c)

planned : (c : In-Ok) → let a = c.args in Planned a.file1.now a.file2.now c.in-Ok.plan
planned c = record { files = comparable _ _ (pass c).pair; plan = ok-value _ _ _ c.in-Ok.ensures }

counted : (c : In-Ok) → let a = c.args in max c.in-Ok.plan.n1 c.in-Ok.plan.n2 ≡ larger_count a.file1.now a.file2.now
counted c = let k = planned c in ap₂ max (plan.count₁ k) (plan.count₂ k)

-- the scratch entries that the steps took are there
room :
    (c : After-max) (k : max c.in-Ok.plan.n1 c.in-Ok.plan.n2 ≡ larger_count c.args.file1.now c.args.file2.now)
    → larger_count c.args.file1.now c.args.file2.now ≤ length c.args.scratch.now → c.max.result ≤ length c.advance-result.new.scratch
room c k h = omega (arith, c.max.ensures, k, h, c.advance-result.auto.scratch)

pub advance-result-requires : goal.advance-result-requires
advance-result-requires c =
    let i = (goal.at.advance-result-requires c).In-Ok in
    let k = planned i in
    let p = pass i in
    record { planned = k; position_lt_size = (omega (arith, p.inside, plan.vectors k), omega (arith, p.room, counted i)) }

pub slice_bounds-fill-end : goal.slice_bounds-fill-end
slice_bounds-fill-end c = let i = (goal.at.slice_bounds-fill-end c).In-Ok in room c (counted i) (pass i).room

pub slice_bounds-fill-end-in-Ok : goal.slice_bounds-fill-end-in-Ok
slice_bounds-fill-end-in-Ok c =
    let at = goal.at.slice_bounds-fill-end-in-Ok c in
    sym (length-take-le _ _ (room at.After-max (counted at.In-Ok) (pass at.In-Ok).room))

pub returns-in-Ok : goal.returns-in-Ok
returns-in-Ok c =
    let a = c.args in
    let at = goal.at.returns-in-Ok c in
    let i = at.In-Ok in
    let n = c.max.ensures ∙ counted i in
    let all_zero : c.fill.new.self ≡ replicate c.max.result 0 =
    c.fill.ensures.after (λ y e. e) ∙ ap (λ k. replicate k 0) (length-take-le _ _ (room at.After-max (counted i) (pass i).room)) in
    record {
      answer = c.advance-result.ensures.result ∙ continued-accepted _ _ _ _ _ (accepting i);
      scratch =
          ap (λ l. l ++ drop c.max.result c.advance-result.new.scratch) all_zero
          ∙ ap (λ k. replicate k 0 ++ drop k c.advance-result.new.scratch) n
          ∙ ap (λ l. replicate (larger_count a.file1.now a.file2.now) 0 ++ l) (rw (counted i) at c.advance-result.ensures.kept)
          ∙ scratch-accepted _ _ _ _ _ (accepting i);
    }

pub returns-in-Err : goal.returns-in-Err
returns-in-Err c =
    let a = c.args in
    let n = err-number _ _ _ c.in-Err.ensures in
    let e = err-refusal _ _ _ c.in-Err.ensures in
    let t : is_refusal (continue_refusal a.file1.now a.file2.now a.session a.budget (length a.scratch.now)) ≡ true = rw (ne_eqb _ 0 n) in
    record {
      answer = ap (handed a.session) (c.refused_answer.ensures ∙ ap refused_answer e) ∙ continued-refused _ _ _ _ _ t;
      scratch = scratch-refused _ _ _ _ _ t;
    }
