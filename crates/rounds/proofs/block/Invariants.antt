-- `rounds::block` meets its contract. Before round r, r − 1 steps are done in every line. Assumes nothing.
use Rattle.std.proofs.Common.{◌≡◌, ◌-◌, not, nat_eq}
use Rattle.rounds.specs.Passes.{factor, lines, partly}
use Rattle.rounds.proofs.block.Given as goal

abbrev pub invariant-loop-r : goal.invariant-loop-r
invariant-loop-r g l = l.cells ≡ lines l.u l.w (partly (factor (not (nat_eq g.row.SUM 0))) (l.r - 1)) l.initial.cells
