-- `rounds::round` meets its contract. The loop keeps the first q entries as they were and those from q on as they are to be.
-- Assumes nothing.
use Rattle.std.proofs.Common.{◌≡◌, ℕ, suc, ◌-◌, not, nat_eq, set, sym, ap, ◌∙◌, arith}
use Rattle.rounds.specs.Passes.{factor, rounded}
use Rattle.rounds.proofs.Splice.{splice}
use Rattle.rounds.proofs.Rounds.{round_start, round_step, round_end}
use Rattle.rounds.proofs.round.Goals as goal

pub loop-q-init : goal.loop-q-init
loop-q-init g c = sym (round_start _ _ _ _)

pub loop-q-preserved : goal.loop-q-preserved
loop-q-preserved g c =
    let a = c.args in
    let l = c.loop-q in
    let s = factor (not (nat_eq g.row.SUM 0)) in
    let next : l.q ≡ suc (l.q - 1) = omega arith in
    ap (set l.cells (l.q - 1)) c.join.ensures
    ∙ round_step s a.w a.from a.cells.now (l.q - 1) l.cells
    (omega arith) (omega arith) (omega arith)
    (l.invariant ∙ ap (λ (j : ℕ). splice j a.cells.now (rounded s a.w a.from a.cells.now)) next)

pub returns : goal.returns
returns g c = c.loop-q.invariant ∙ round_end _ _ _ _ _ c.loop-q-test.false c.loop-q.auto.q
