-- `rows::fill_row` meets its contract. The loop's invariant: the first l lanes of row k are x, the other entries as at entry.
-- Assumes nothing.
use mathlib.Core.Path.{◌≡◌}
use Rattle.rows.proofs.Writing.{Row}
use Rattle.rows.proofs.fill_row.Given as goal

abbrev pub invariant-loop-l : goal.invariant-loop-l
invariant-loop-l l = Row l.w l.initial.rows l.rows l.k (λ i v. v ≡ l.x) l.l
