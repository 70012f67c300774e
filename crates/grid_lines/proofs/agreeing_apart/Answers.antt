-- `grid_lines::agreeing_apart` meets its contract. The loop's invariant is `Agreed`: in the agreeing lanes the outputs agree at every value of the last
-- input below t, and the rows hold the values at t - 1.
-- Assumes nothing.
use Rattle.std.proofs.Common.{◌≡◌, ◌+◌, ◌-◌, ◌%◌, ◌^◌, ◌<◌, ◌∙◌, arith}
use Rattle.batches.proofs.OnGrid.{same-grid}
use Rattle.batches.proofs.Tests.{last₁, last₂, room₁, room₂, prepared_kept}
use Rattle.lanes.specs.Lanes.{LanesOnGrid}
use Rattle.plan.proofs.Numbers as plan
use Rattle.rows.proofs.Writing.{before-row}
use Rattle.line_outputs.proofs.AlongLines.{filled_on_grid}
use Rattle.line_outputs.specs.AlongLines.{line_word}
use Rattle.grid_lines.specs.Lines.{last_axis, last_low}
use Rattle.grid_lines.proofs.Lines.{agreed_start, last_on_grid, agreed_step}
use Rattle.grid_lines.proofs.agreeing_apart.Goals.{After-fill_row, After-loop-t}
use Rattle.grid_lines.proofs.agreeing_apart.Goals as goal

-- the count and the word of the last input, by the plan
below : (c : After-fill_row) → c.loop-t.t < last_axis c.args.plan
below c = rw c.along_lines-along1.ensures at c.loop-t-test.true

word-at : (c : After-fill_row) → (c.along_lines-along1.result.low + c.loop-t.t) % 2 ^ 64 ≡ line_word (last_low c.args.plan) c.loop-t.t
word-at c = rw c.along_lines-along1.ensures

-- the filled lanes are on the grid
on-grid : (c : After-fill_row) → LanesOnGrid c.args.shape.w c.args.file1.now c.fill_row.new.rows
on-grid c =
    let k = c.requires.prepared in
    filled_on_grid _ _ _ _ _ _ (last_on_grid k.planned _ _ (below c) (word-at c)) c.fill_row.ensures c.loop-t.invariant.on_grid

pub along_lines-along1-requires : goal.along_lines-along1-requires
along_lines-along1-requires c = plan.some_inputs c.requires.prepared.planned

pub along_lines-along2-requires : goal.along_lines-along2-requires
along_lines-along2-requires c = plan.some_inputs c.requires.prepared.planned

pub loop-t-init : goal.loop-t-init
loop-t-init c = agreed_start _ _ _ _ _ _ _ _ _ _ c.requires.fronts.on_grid

pub overflow_sub-plan : goal.overflow_sub-plan
overflow_sub-plan c = (plan.some_inputs c.requires.prepared.planned).0

pub fill_row-requires : goal.fill_row-requires
fill_row-requires c =
    let a = c.args in
    omega (arith, c.loop-t.invariant.long, c.requires.fronts.room, before-row a.shape.w (a.plan.d - 1) a.plan.d (omega (arith, (plan.some_inputs c.requires.prepared.planned).0)))

pub refresh-requires : goal.refresh-requires
refresh-requires c = let inv = c.loop-t.invariant in rw c.along_lines-along1.ensures (record { room = room₁ (prepared_kept c.requires.prepared _ c.loop-t.other inv.long₁ inv.long₂) _ (omega (arith, c.requires.fronts.room, inv.long, c.fill_row.auto.rows)); listed = c.requires.dependents.listed₁; lanes_on_grid = on-grid (goal.at.refresh-requires c).After-fill_row })

pub refresh-requires-in-loop-t : goal.refresh-requires-in-loop-t
refresh-requires-in-loop-t c = let inv = c.loop-t.invariant in rw c.along_lines-along2.ensures (record { room = room₂ {other = c.loop-t.other} (prepared_kept c.requires.prepared c.loop-t.rows _ inv.long₁ inv.long₂) _ _ (omega (arith, c.requires.fronts.room, inv.long, c.fill_row.auto.rows)) (omega (arith, c.requires.prepared.room₂ c.requires.turn_value, inv.long₂)); listed = c.requires.dependents.listed₂; lanes_on_grid = same-grid _ _ _ c.fill_row.new.rows c.requires.prepared.planned.files.same (on-grid (goal.at.refresh-requires-in-loop-t c).After-fill_row) })

pub overflow_sub-plan-in-loop-t : goal.overflow_sub-plan-in-loop-t
overflow_sub-plan-in-loop-t c = (plan.some_steps c.requires.prepared.planned).0

pub overflow_sub-plan-in-loop-t-2 : goal.overflow_sub-plan-in-loop-t-2
overflow_sub-plan-in-loop-t-2 c = (plan.some_steps c.requires.prepared.planned).1

pub first_unequal-agreeing-requires : goal.first_unequal-agreeing-requires
first_unequal-agreeing-requires c =
    let k = c.requires.prepared in
    let inv = c.loop-t.invariant in (
      omega (arith, last₁ k, k.room₁, inv.long₁, c.refresh.auto.rows),
      omega (arith, last₂ k, k.room₂ c.requires.turn_value, inv.long₂, c.refresh-in-loop-t.auto.rows),
      inv.high,
    )

pub shape_of-rows-then-agreeing-eq0 : goal.shape_of-rows-then-agreeing-eq0
shape_of-rows-then-agreeing-eq0 c = c.refresh.auto.rows ∙ c.loop-t.invariant.long₁

pub shape_of-other-then-agreeing-eq0 : goal.shape_of-other-then-agreeing-eq0
shape_of-other-then-agreeing-eq0 c = c.refresh-in-loop-t.auto.rows ∙ c.loop-t.invariant.long₂

pub shape_of-inputs-then-agreeing-eq0 : goal.shape_of-inputs-then-agreeing-eq0
shape_of-inputs-then-agreeing-eq0 c = c.fill_row.auto.rows ∙ c.loop-t.invariant.long

pub returns-then-agreeing-eq0 : goal.returns-then-agreeing-eq0
returns-then-agreeing-eq0 c = record { high = omega arith; agree = λ l t x h. absurd (omega arith) }

pub loop-t-preserved : goal.loop-t-preserved
loop-t-preserved c =
    let inv = c.loop-t.invariant in
    let long₁ = c.refresh.auto.rows in
    let long₂ = c.refresh-in-loop-t.auto.rows in
    let b = (goal.at.loop-t-preserved c).After-fill_row in
    agreed_step _ _ _ _ _ _ _ _ _ _ _ _ _ _ _ _
    (prepared_kept c.requires.prepared _ _ (long₁ ∙ inv.long₁) (long₂ ∙ inv.long₂)) inv (word-at b) c.fill_row.ensures c.args.list1.now c.args.list2.now _ _
    (below b) c.fill_row.auto.rows long₁ long₂ c.requires.dependents.rest₁ c.requires.dependents.rest₂ (rw c.along_lines-along1.ensures at c.refresh.ensures)
    (rw c.along_lines-along2.ensures at c.refresh-in-loop-t.ensures) (plan.output c.requires.prepared.planned) c.first_unequal-agreeing.ensures

pub shape_of-rows : goal.shape_of-rows
shape_of-rows c = c.loop-t.invariant.long₁

pub shape_of-other : goal.shape_of-other
shape_of-other c = c.loop-t.invariant.long₂

pub shape_of-inputs : goal.shape_of-inputs
shape_of-inputs c = c.loop-t.invariant.long

last-count : (c : After-loop-t) → c.along_lines-along1.result.u ≡ last_axis c.args.plan
last-count c = rw c.along_lines-along1.ensures

pub returns : goal.returns
returns c =
    let k = c.loop-t.invariant in
    record { high = k.high; agree = λ l t x h less. k.agree l t x h (omega (arith, less, c.loop-t-test.false, last-count (goal.at.returns c).After-loop-t)) }
