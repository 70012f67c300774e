-- `line_outputs::refresh_at` meets its contract.
-- Assumes nothing.
use Rattle.std.proofs.Common.{◌-◌, arith}
use Rattle.rows.proofs.Writing.{before-row}
use Rattle.line_outputs.proofs.AlongLines.{line_grid}
use Rattle.line_outputs.proofs.refresh_at.Goals as goal

pub overflow_sub-along : goal.overflow_sub-along
overflow_sub-along c = omega (arith, c.requires.along_line.input_count, c.requires.room.sound.inputs_low)

pub fill_row-requires : goal.fill_row-requires
fill_row-requires c =
    let a = c.args.along in
    omega (arith, c.requires.along_line.room, before-row a.w (a.d - 1) a.d (omega (arith, c.requires.along_line.input_count, c.requires.room.sound.inputs_low)))

pub refresh-requires : goal.refresh-requires
refresh-requires c =
    record {
      room = record {
        width = c.requires.room.width;
        sound = c.requires.room.sound;
        count = c.requires.room.count;
        input_rows = omega (arith, c.requires.room.input_rows, c.fill_row.auto.rows);
        step_rows = c.requires.room.step_rows;
      };
      listed = c.requires.along_line.listed;
      lanes_on_grid = line_grid c.requires.along_line c.requires.t_lt_u c.fill_row.ensures;
    }

pub returns : goal.returns
returns c =
    record {
      last = c.fill_row.ensures;
      on_grid = line_grid c.requires.along_line c.requires.t_lt_u c.fill_row.ensures;
      rows = c.refresh.ensures;
    }
