-- `row_sums::subtract_rows` meets its contract: what the closure answers is a lane of the row of differences.
-- Assumes nothing.
use Rattle.std.proofs.Common.{rules}
use Rattle.rows.proofs.Writing.{zipped}
use Rattle.row_sums.proofs.subtract_rows.Goals as goal

pub returns : goal.returns
returns c = zipped c.zip_rows.ensures _ (λ l v h. search rules)
