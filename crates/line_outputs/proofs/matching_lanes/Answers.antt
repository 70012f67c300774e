-- `line_outputs::matching_lanes` meets its contract. The loop's invariant: the rows hold the values at t - 1, and in the matching lanes the saved rows show
-- the outputs below t.
-- Assumes nothing.
use Rattle.std.proofs.Common.{◌-◌, ◌∙◌, arith}
use Rattle.fields.proofs.Heads.{head-short}
use Rattle.rows.proofs.Writing.{before-row}
use Rattle.line_outputs.proofs.AlongLines.{walk_start, line_again, room_again, walk_step, match_step}
use Rattle.line_outputs.proofs.matching_lanes.Goals as goal

pub output_length-m-requires : goal.output_length-m-requires
output_length-m-requires c = head-short _ c.requires.room.sound.long

pub loop-at-init : goal.loop-at-init
loop-at-init c =
    record {
      walked = walk_start _ _ _ _ c.requires.along_line.on_grid;
      high = omega arith;
      shown = λ l c x g h. absurd (omega arith);
    }

pub refresh_at-requires : goal.refresh_at-requires
refresh_at-requires c =
    let was = c.loop-at.invariant.walked in
    record { room = room_again was c.requires.room; along_line = line_again was c.requires.along_line; t_lt_u = c.loop-at-test.true }

pub overflow_sub-along : goal.overflow_sub-along
overflow_sub-along c = omega (arith, c.requires.room.count, c.requires.room.sound.count_low)

pub first_unequal-matching-requires : goal.first_unequal-matching-requires
first_unequal-matching-requires c =
    let a = c.args.along in
    let inv = c.loop-at.invariant in (
      omega (arith, before-row a.w c.loop-at.at a.u c.loop-at-test.true, c.requires.u_in_bounds),
      omega (arith, before-row a.w (a.n - 1) a.n (omega (arith, c.requires.room.count, c.requires.room.sound.count_low)), c.requires.room.step_rows, inv.walked.long_rows, c.refresh_at.auto.rows),
      inv.high,
    )

pub shape_of-rows-then-matching-eq0 : goal.shape_of-rows-then-matching-eq0
shape_of-rows-then-matching-eq0 c = c.refresh_at.auto.rows ∙ c.loop-at.invariant.walked.long_rows

pub shape_of-inputs-then-matching-eq0 : goal.shape_of-inputs-then-matching-eq0
shape_of-inputs-then-matching-eq0 c = c.refresh_at.auto.inputs ∙ c.loop-at.invariant.walked.long

pub returns-then-matching-eq0 : goal.returns-then-matching-eq0
returns-then-matching-eq0 c = record { high = omega arith; shown = λ l c x h. absurd (omega arith) }

pub loop-at-preserved : goal.loop-at-preserved
loop-at-preserved c =
    let inv = c.loop-at.invariant in
    let next =
    match_step c.requires.along_line c.requires.room.sound inv.walked c.refresh_at.ensures _ _ _ _ c.requires.room.count c.output_length-m.ensures inv.high
    inv.shown c.first_unequal-matching.ensures in
    record {
      walked =
          walk_step c.requires.along_line c.requires.room.sound inv.walked c.refresh_at.ensures c.refresh_at.auto.inputs c.refresh_at.auto.rows;
      high = omega (arith, next.0, inv.high);
      shown = next.1;
    }

pub shape_of-rows : goal.shape_of-rows
shape_of-rows c = c.loop-at.invariant.walked.long_rows

pub shape_of-inputs : goal.shape_of-inputs
shape_of-inputs c = c.loop-at.invariant.walked.long

pub returns : goal.returns
returns c =
    let inv = c.loop-at.invariant in
    record { high = inv.high; shown = λ l t x g h. inv.shown l t x g (omega (arith, h, c.loop-at-test.false)) }
