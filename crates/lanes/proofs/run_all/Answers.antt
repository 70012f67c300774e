-- `lanes::run_all` meets its contract: every step is chosen.
-- Assumes nothing.
use Rattle.std.proofs.Common.{rules}
use Rattle.lanes.proofs.run_all.Goals as goal

pub returns : goal.returns
returns c = λ l x b reads. c.run_steps.ensures.held l x b reads (λ i h out. absurd (let r = c.run_steps.ensures.chosen i h in out i r.0 h r.1 (search rules)))
