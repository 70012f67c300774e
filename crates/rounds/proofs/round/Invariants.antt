-- `rounds::round` meets its contract. The loop keeps the first q entries as they were and those from q on as they are to be.
-- Assumes nothing.
use Rattle.std.proofs.Common.{◌≡◌, not, nat_eq}
use Rattle.rounds.specs.Passes.{factor, rounded}
use Rattle.rounds.proofs.Splice.{splice}
use Rattle.rounds.proofs.round.Given as goal

abbrev pub invariant-loop-q : goal.invariant-loop-q
invariant-loop-q g l = l.cells ≡ splice l.q l.initial.cells (rounded (factor (not (nat_eq g.row.SUM 0))) l.w l.from l.initial.cells)
