-- `report_lines::put_grid` meets its contract: the grid's first d axes are the file's, and its size is theirs. Assumes nothing.
use mathlib.Core.Path.{◌≡◌, sym}
use lib.ListN.{take}
use lib.Seq.{length-take-le}
use Rattle.file.proofs.Sound.{file-sound}
use Rattle.printed.specs.Lines.{grid_line}
use Rattle.printed.specs.Report.{grid_text}
use Rattle.report_lines.proofs.GridLine.{grid-read, axes-long}
use Rattle.report_lines.proofs.put_grid.Goals.{After-grid_of-grid}
use Rattle.report_lines.proofs.put_grid.Goals as goal

pub grid_of-grid-requires : goal.grid_of-grid-requires
grid_of-grid-requires c = rw c.read_sizes-z.ensures (file-sound _ c.requires.accepted)

pub slice_bounds-put_halves-end-2 : goal.slice_bounds-put_halves-end-2
slice_bounds-put_halves-end-2 c = sym (length-take-le _ _ (axes-long _ c.requires.accepted _ _ c.read_sizes-z.ensures c.grid_of-grid.ensures))

-- the line of what is read
read :
    (c : After-grid_of-grid) →
    let g = c.grid_of-grid.result in
    grid_text c.args.file.now ≡ grid_line (take c.read_sizes-z.result.d g.axes) g.size
read c = grid-read _ c.requires.accepted _ _ c.read_sizes-z.ensures c.grid_of-grid.ensures

pub put_halves-requires : goal.put_halves-requires
unfolding grid_line
put_halves-requires c = rw (read (goal.at.put_halves-requires c).After-grid_of-grid) at c.requires.room_for

pub returns : goal.returns
unfolding grid_line
returns c = rw (read (goal.at.returns c).After-grid_of-grid) c.put_halves.ensures
