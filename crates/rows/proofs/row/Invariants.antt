-- `rows::row` meets its contract. The loop's invariant: the first l entries of x are those of row k.
-- Assumes nothing.
use mathlib.Core.Path.{◌≡◌}
use Rattle.rows.specs.Rows.{lane}
use Rattle.rows.proofs.Writing.{Put}
use Rattle.rows.proofs.row.Given as goal

abbrev pub invariant-loop-l : goal.invariant-loop-l
invariant-loop-l l = Put l.initial.x l.x (λ i. i) (λ i v. v ≡ lane l.w l.rows l.k i) l.l
