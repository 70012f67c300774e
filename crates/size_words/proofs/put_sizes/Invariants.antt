-- `size_words::put_sizes` meets its contract. The loop's invariant: m and d are written, and the first i word lengths.
-- Assumes nothing.
use Rattle.size_words.proofs.Put.{Put}
use Rattle.size_words.proofs.put_sizes.Given as goal

abbrev pub invariant-loop-i : goal.invariant-loop-i
invariant-loop-i l = Put l.initial.out l.z.widths l.out l.i
