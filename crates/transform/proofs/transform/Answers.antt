-- `transform::transform` meets its contract: the passes leave words, and their integers modulo 2^m are what the cut leaves. Assumes nothing.
use Rattle.transform.proofs.Results.{cut_passes}
use Rattle.transform.proofs.transform.Goals as goal

pub returns : goal.returns
returns g c = cut_passes c.args.m c.requires.2 _ c.args.axes.now c.args.cells.now _ _ c.passes.ensures c.cut_cells.ensures
