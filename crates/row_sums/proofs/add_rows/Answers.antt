-- `row_sums::add_rows` meets its contract: what the closure answers is a lane of the row of sums.
-- Assumes nothing.
use Rattle.std.proofs.Common.{rules}
use Rattle.rows.proofs.Writing.{zipped}
use Rattle.row_sums.proofs.add_rows.Goals as goal

pub returns : goal.returns
returns c = zipped c.zip_rows.ensures _ (λ l v h. search rules)
