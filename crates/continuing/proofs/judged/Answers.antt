-- `continuing::judged` meets its contract: each test by the one before it.
-- Assumes nothing.
use mathlib.Core.Bool.{false}
use mathlib.Core.Path.{◌≡◌, sym, ◌∙◌, ap, ap₂}
use Prim.Native.Nat.{max}
use native.Mathlib.Omega.{arith}
use borrow.Author.Rules.{rules}
use borrow.Author.Tests.{eq-eqb, le-ltb}
use Rattle.std.specs.Prelude.{Ok, Err}
use Rattle.engine.specs.Engine.{larger_count}
use Rattle.plan.specs.Comparison.{Comparable}
use Rattle.plan.specs.Plan.{Planned}
use Rattle.plan.proofs.Numbers as plan
use Rattle.sizes.proofs.Answered.{ok-answered, err-answered, ok-number, err-number, err-refusal}
use Rattle.sizes.proofs.Judged.{number_of}
use Rattle.sizes.specs.Sizes.{is_refusal}
use Rattle.sessions.specs.Session.{pair_refusal, continue_refusal, room_refusal, state_refusal}
use Rattle.sessions.proofs.Cases.{by_budget, by_files, by_room, by_rest}
use Rattle.sessions.proofs.Pair.{comparable}
use Rattle.continuing.proofs.judged.Goals.{In_ok-pair_refusal, After-plan_of-plan, After-state_refusal}
use Rattle.continuing.proofs.judged.Goals as goal

both : (c : In_ok-pair_refusal) → let a = c.args in Comparable a.file1.now a.file2.now
both c =
    let a = c.args in
    let free : is_refusal (pair_refusal a.file1.now a.file2.now) ≡ false = rw (eq-eqb _ 0 (ok-number _ _ _ c.in_ok-pair_refusal.ensures)) in
    comparable _ _ free

pub read_sizes-sizes-requires : goal.read_sizes-sizes-requires
read_sizes-sizes-requires c = (both c).sound₁.long

pub plan_of-plan-requires : goal.plan_of-plan-requires
plan_of-plan-requires c = record { comparable = both (goal.at.plan_of-plan-requires c).In_ok-pair_refusal; z_value = c.read_sizes-sizes.ensures }

planned : (c : After-plan_of-plan) (b : Comparable c.args.file1.now c.args.file2.now) → Planned c.args.file1.now c.args.file2.now c.plan_of-plan.result
planned c b = record { files = b; plan = c.plan_of-plan.ensures }

pub returns-then-budget-eq0 : goal.returns-then-budget-eq0
returns-then-budget-eq0 c =
    let q = c.refused_by.ensures in
    err-answered _ _ _ (q ∙ by_budget _ _ _ _ _ c.if-budget-eq0.true) (λ z. omega (arith, number_of q, z))

pub returns-in_err-pair_refusal : goal.returns-in_err-pair_refusal
returns-in_err-pair_refusal c =
    let r : c.from_residual.result ≡ Err c.in_err-pair_refusal.field-0.0 = search rules in
    let n = err-number _ _ _ c.in_err-pair_refusal.ensures in
    let e = err-refusal _ _ _ c.in_err-pair_refusal.ensures in
    r ∙ err-answered _ _ _ (e ∙ by_files _ _ _ _ _ c.if-budget-eq0.false n) (λ z. n (sym (number_of e) ∙ z))

pub returns-then-room-max : goal.returns-then-room-max
returns-then-room-max c =
    let at = goal.at.returns-then-room-max c in
    let k = planned at.After-plan_of-plan (both at.In_ok-pair_refusal) in
    let n = c.max.ensures ∙ ap₂ max (plan.count₁ k) (plan.count₂ k) in
    let q = c.refused_by-then-room-max.ensures in
    err-answered _ _ _
    (q ∙ by_room _ _ _ _ _ c.if-budget-eq0.false (ok-number _ _ _ c.in_ok-pair_refusal.ensures) (omega (arith, c.if-room-max.true, n)))
    (λ z. omega (arith, number_of q, z))

-- where there is room, the call's refusal is that of the state
of_state :
    (c : After-state_refusal) (b : Comparable c.args.file1.now c.args.file2.now) →
    let a = c.args in
    state_refusal c.read_sizes-sizes.result c.plan_of-plan.result.size a.session
    ≡ continue_refusal a.file1.now a.file2.now a.session a.budget a.room
of_state c b =
    let a = c.args in
    let k : Planned a.file1.now a.file2.now c.plan_of-plan.result = record { files = b; plan = c.plan_of-plan.ensures } in
    let n = c.max.ensures ∙ ap₂ max (plan.count₁ k) (plan.count₂ k) in
    let room : state_refusal c.read_sizes-sizes.result c.plan_of-plan.result.size a.session ≡ room_refusal a.file1.now a.file2.now a.session a.room =
    ap₂ (λ w G. state_refusal w G a.session) c.read_sizes-sizes.ensures (plan.vectors k)
    ∙ rw (le-ltb a.room (larger_count a.file1.now a.file2.now) (omega (arith, c.if-room-max.false, n))) in
    room ∙ by_rest _ _ _ _ _ c.if-budget-eq0.false (ok-number _ _ _ c.in_ok-pair_refusal.ensures)

pub returns-in_err-state_refusal : goal.returns-in_err-state_refusal
returns-in_err-state_refusal c =
    let at = goal.at.returns-in_err-state_refusal c in
    let r : c.from_residual-in_err-state_refusal.result ≡ Err c.in_err-state_refusal.field-0.0 = search rules in
    let n = err-number _ _ _ c.in_err-state_refusal.ensures in
    let e = err-refusal _ _ _ c.in_err-state_refusal.ensures in
    r ∙ err-answered _ _ _ (e ∙ of_state at.After-state_refusal (both at.In_ok-pair_refusal)) (λ z. n (sym (number_of e) ∙ z))

pub returns : goal.returns
returns c =
    let at = goal.at.returns c in
    let z = ok-number _ _ _ c.in_ok-state_refusal.ensures in
    ap (λ p. Ok p) c.plan_of-plan.ensures
    ∙ ok-answered _ _ (sym (number_of (of_state at.After-state_refusal (both at.In_ok-pair_refusal))) ∙ z)
