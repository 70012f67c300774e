-- `rounds::pass` meets its contract. The loop has the b whole blocks before this one passed over and the others as they were.
-- Assumes nothing.
use Rattle.std.proofs.Common.{◌≡◌, ◌*◌, ◌++◌, take, drop, not, nat_eq}
use Rattle.rounds.specs.Passes.{factor, passed}
use Rattle.rounds.proofs.pass.Given as goal

abbrev pub invariant-loop-b : goal.invariant-loop-b
invariant-loop-b g l =
    l.cells
    ≡ passed (factor (not (nat_eq g.row.SUM 0))) l.u l.w (take (l.b * (l.u * l.w)) l.initial.cells)
    ++ drop (l.b * (l.u * l.w)) l.initial.cells
