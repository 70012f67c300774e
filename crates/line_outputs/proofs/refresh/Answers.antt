-- `line_outputs::refresh` meets its contract: at the first place what `run_all` promises, at a later one what `run_listed` does.
-- Assumes nothing.
use Rattle.std.proofs.Common.{arith}
use Rattle.line_outputs.proofs.refresh.Goals as goal

pub returns : goal.returns
returns c =
    λ j l x y h rest beside reads held.
    c.run_listed.ensures j l x y h rest beside reads (held (omega arith))
