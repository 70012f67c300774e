-- `rows::copy_row` meets its contract. The loop's invariant: the first l lanes of row k are those of the source's row, the other entries as at
-- entry.
-- Assumes nothing.
use mathlib.Core.Path.{◌≡◌}
use Rattle.rows.specs.Rows.{lane}
use Rattle.rows.proofs.Writing.{Row}
use Rattle.rows.proofs.copy_row.Given as goal

abbrev pub invariant-loop-l : goal.invariant-loop-l
invariant-loop-l l = Row l.w l.initial.rows l.rows l.k (λ i v. v ≡ lane l.w l.source l.i i) l.l
