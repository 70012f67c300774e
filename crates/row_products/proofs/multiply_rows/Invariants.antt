-- `row_products::multiply_rows` meets its contract. The loop's invariant: the first l lanes of row k are the products, the other entries as at
-- entry: so the operands, in earlier rows, are read as they were.
-- Assumes nothing.
use mathlib.Core.Path.{◌≡◌}
use Rattle.rows.proofs.Writing.{Row}
use Rattle.row_products.specs.Products.{row_products}
use Rattle.row_products.proofs.multiply_rows.Given as goal

abbrev pub invariant-loop-l : goal.invariant-loop-l
invariant-loop-l l = Row l.w l.initial.rows l.rows l.k (λ i v. v ≡ row_products l.w l.initial.rows l.a l.b i) l.l
