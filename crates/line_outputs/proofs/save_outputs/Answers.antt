-- `line_outputs::save_outputs` meets its contract. The loop's invariant: the rows hold the values at t - 1, and the saved rows show the outputs below t.
-- Assumes nothing.
use Rattle.std.proofs.Common.{◌-◌, refl, ◌∙◌, arith}
use Rattle.lanes.proofs.Stepped.{width-most}
use Rattle.rows.proofs.Writing.{before-row}
use Rattle.line_outputs.proofs.AlongLines.{walk_start, line_again, room_again, walk_step, save_step}
use Rattle.line_outputs.proofs.save_outputs.Goals as goal

pub loop-count-init : goal.loop-count-init
loop-count-init c =
    record {
      walked = walk_start _ _ _ _ c.requires.along_line.on_grid;
      long_saved = refl;
      outputs = λ l c x g h. absurd (omega arith);
    }

pub refresh_at-requires : goal.refresh_at-requires
refresh_at-requires c =
    let was = c.loop-count.invariant.walked in
    record { room = room_again was c.requires.room; along_line = line_again was c.requires.along_line; t_lt_u = c.loop-count-test.true }

pub overflow_sub-along : goal.overflow_sub-along
overflow_sub-along c = omega (arith, c.requires.room.count, c.requires.room.sound.count_low)

pub copy_row-requires : goal.copy_row-requires
copy_row-requires c =
    let a = c.args.along in
    let inv = c.loop-count.invariant in record { w_le_max_lanes = (width-most c.requires.room.width, omega (arith, before-row a.w (a.n - 1) a.n (omega (arith, c.requires.room.count, c.requires.room.sound.count_low)), c.requires.room.step_rows, inv.walked.long_rows, c.refresh_at.auto.rows)); has_row = omega (arith, before-row a.w c.loop-count.count a.u c.loop-count-test.true, c.requires.u_in_bounds, inv.long_saved) }

pub loop-count-preserved : goal.loop-count-preserved
loop-count-preserved c =
    let inv = c.loop-count.invariant in
    record {
      walked =
          walk_step c.requires.along_line c.requires.room.sound inv.walked c.refresh_at.ensures c.refresh_at.auto.inputs c.refresh_at.auto.rows;
      long_saved = c.copy_row.auto.rows ∙ inv.long_saved;
      outputs =
          save_step c.requires.along_line c.requires.room.sound inv.walked c.refresh_at.ensures c.loop-count.saved _ c.requires.room.count
          inv.outputs c.copy_row.ensures;
    }

pub shape_of-rows : goal.shape_of-rows
shape_of-rows c = c.loop-count.invariant.walked.long_rows

pub shape_of-inputs : goal.shape_of-inputs
shape_of-inputs c = c.loop-count.invariant.walked.long

pub shape_of-saved : goal.shape_of-saved
shape_of-saved c = c.loop-count.invariant.long_saved

pub returns : goal.returns
returns c =
    let inv = c.loop-count.invariant in
    record {
      outputs = λ l t x g h. inv.outputs l t x g (omega (arith, h, c.loop-count-test.false));
      fronts = inv.walked.fronts;
      on_grid = inv.walked.on_grid;
    }
