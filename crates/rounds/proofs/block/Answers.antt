-- `rounds::block` meets its contract. Before round r, r − 1 steps are done in every line. Assumes nothing.
use Rattle.std.proofs.Common.{◌≡◌, ℕ, suc, ◌+◌, ◌-◌, ◌*◌, List, not, nat_eq, sym, ap, ◌∙◌, ap₂, arith}
use Rattle.rounds.specs.Passes.{factor, rounded, lines, partly}
use Rattle.rounds.proofs.Multiples.{factors_least}
use Rattle.rounds.proofs.Rounds.{after-start, after-step, after_end}
use Rattle.rounds.proofs.block.Goals as goal

pub loop-r-init : goal.loop-r-init
loop-r-init g c =
    let a = c.args in
    let z = factors_least a.u a.w (omega arith) in
    sym (after-start (factor (not (nat_eq g.row.SUM 0))) a.u a.w z.0 z.1 a.cells.now (λ q. (c.type_inv.cells q).fits))

pub loop-r-preserved : goal.loop-r-preserved
loop-r-preserved g c =
    let a = c.args in
    let l = c.loop-r in
    let s = factor (not (nat_eq g.row.SUM 0)) in
    let z = factors_least a.u a.w (omega arith) in
    let here : l.r ≡ suc (l.r - 1) = omega arith in
    let next : suc (l.r - 1) ≡ l.r + 1 - 1 = omega arith in
    c.round.ensures
    ∙ ap₂ (λ (j : ℕ) (k : List ℕ). rounded s a.w (j * a.w) k) here l.invariant
    ∙ after-step s a.u a.w z.0 z.1 a.cells.now (l.r - 1) (omega arith)
    ∙ ap (λ (j : ℕ). lines a.u a.w (partly s j) a.cells.now) next

pub returns : goal.returns
returns g c =
    let a = c.args in
    let l = c.loop-r in
    let z = factors_least a.u a.w (omega arith) in
    l.invariant ∙ after_end (factor (not (nat_eq g.row.SUM 0))) a.u a.w z.0 z.1 a.cells.now (l.r - 1) (omega arith)
