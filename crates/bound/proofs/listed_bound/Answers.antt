-- `bound::listed_bound` meets its contract: the constant array is the table of specs/, entry by entry, and that is
-- what algorithm 1 computes.
-- Assumes nothing.
use Rattle.bound.specs.Bound.{bounds}
use Rattle.bound.proofs.Table.{bound-entry}
use Rattle.bound.proofs.listed_bound.Goals as goal

pub returns : goal.returns
unfolding bounds
returns c = bound-entry c.args.m c.requires.0 c.requires.1
