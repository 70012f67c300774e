-- `advancing::advance` meets its contract, by the place that the engine came to.
-- Assumes nothing.
use mathlib.Core.List.{List}
use mathlib.Core.Path.{◌≡◌, ◌∙◌, ap}
use Prim.Native.Nat.{ℕ, ◌+◌, ◌-◌, ◌≤◌}
use native.Mathlib.Omega.{arith}
use Rattle.engine.specs.Engine.{outputs_differ}
use Rattle.plan.specs.Comparison.{Found}
use Rattle.plan.proofs.Numbers as plan
use Rattle.ranges.specs.Search.{first}
use Rattle.ranges.proofs.Search.{first-least}
use Rattle.sessions.proofs.Cases.{handed, advanced-differs, advanced-equivalent, advanced-spent}
use Rattle.advancing.proofs.advance.Goals.{After-first_difference-place, Then-place-position}
use Rattle.advancing.proofs.advance.Goals as goal

-- the place found among the next `count`
among : (s₁ s₂ : List ℕ) (from count r : ℕ) → Found s₁ s₂ from (from + count) r → r ≡ first (outputs_differ s₁ s₂) from count
among s₁ s₂ from count r e =
    let q : from + count - from ≡ count = omega arith in
    e ∙ ap (first (outputs_differ s₁ s₂) from) q

place : (c : After-first_difference-place) → let a = c.args in c.first_difference-place.result ≡ first (outputs_differ a.file1.now a.file2.now) a.session.position c.min-count.result
place c = among _ _ _ _ _ c.first_difference-place.ensures.found

-- the place is not before the position
low : (c : After-first_difference-place) → c.args.session.position ≤ c.first_difference-place.result
low c =
    let a = c.args in
    omega (
      arith,
      place c,
      first-least (outputs_differ a.file1.now a.file2.now) a.session.position c.min-count.result,
    )

pub overflow_sub-place : goal.overflow_sub-place
overflow_sub-place c = omega (arith, low (goal.at.overflow_sub-place c).After-first_difference-place)

pub returns-then-place-position : goal.returns-then-place-position
returns-then-place-position c =
    let a = c.args in
    record {
      result =
          ap (handed _) c.differs_answer.ensures.answer
          ∙ advanced-differs a.file1.now a.file2.now a.session a.budget _ _ _ (plan.vectors c.requires.planned) c.min-count.ensures
          (place (goal.at.returns-then-place-position c).After-first_difference-place) c.if-place-position.true;
      kept = c.differs_answer.ensures.kept ∙ c.first_difference-place.ensures.kept;
    }

pub returns-then-left-budget : goal.returns-then-left-budget
returns-then-left-budget c =
    let a = c.args in
    record {
      result =
          ap (handed _) c.plain_answer.ensures
          ∙ advanced-equivalent a.file1.now a.file2.now a.session a.budget _ _ _ (plan.vectors c.requires.planned) c.min-count.ensures
          (place (goal.at.returns-then-left-budget c).After-first_difference-place) c.if-place-position.false c.requires.position_lt_size.0 c.if-left-budget.true;
      kept = c.first_difference-place.ensures.kept;
    }

pub returns : goal.returns
returns c =
    let a = c.args in
    record {
      result =
          ap (handed _) c.plain_answer-2.ensures
          ∙ advanced-spent a.file1.now a.file2.now a.session a.budget _ _ _ (plan.vectors c.requires.planned) c.min-count.ensures
          (place (goal.at.returns c).After-first_difference-place) c.if-place-position.false c.requires.position_lt_size.0 c.if-left-budget.false;
      kept = c.first_difference-place.ensures.kept;
    }
