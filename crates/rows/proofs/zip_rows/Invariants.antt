-- `rows::zip_rows` meets its contract. The loop's invariant: the first l lanes of row k are what f answers on those of the rows a and b, the other
-- entries as at entry.
-- Assumes nothing.
use Rattle.rows.specs.Rows.{lane}
use Rattle.rows.proofs.Writing.{Row}
use Rattle.rows.proofs.zip_rows.Given as goal

abbrev pub invariant-loop-l : goal.invariant-loop-l
invariant-loop-l g l = Row l.w l.initial.rows l.rows l.k (λ i v. goal.F-post g l.f (lane l.w l.initial.rows l.a i) (lane l.w l.initial.rows l.b i) v) l.l
