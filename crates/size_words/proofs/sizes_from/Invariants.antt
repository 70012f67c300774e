-- `size_words::sizes_from` meets its contract: each of the words fits a byte. The loop's invariant: the first i word lengths are read.
-- Assumes nothing.
use lib.ListN.{drop, replicate}
use Rattle.sizes.specs.Sizes.{max_inputs}
use Rattle.slices.proofs.Copied.{Copied}
use Rattle.size_words.proofs.sizes_from.Given as goal

abbrev pub invariant-loop-i : goal.invariant-loop-i
invariant-loop-i l = Copied (drop 2 l.words) (replicate max_inputs 0) max_inputs l.widths l.i
