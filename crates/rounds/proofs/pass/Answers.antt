-- `rounds::pass` meets its contract. The loop has the b whole blocks before this one passed over and the others as they were.
-- Assumes nothing.
use Rattle.std.proofs.Common.{◌≡◌, ℕ, ◌+◌, ◌-◌, ◌*◌, ◌/◌, ◌<◌, ◌++◌, length, take, drop, not, nat_eq, ◌∙◌, ap, div-add-mod', mul-le-mul_right, arith}
use native.Mathlib.Nat.{mul-mod_left}
use Rattle.rounds.specs.Passes.{factor, passed}
use Rattle.rounds.proofs.Multiples.{factors_least, multiple-least}
use Rattle.rounds.proofs.Blocks.{pass_start, pass_step}
use Rattle.rounds.proofs.pass.Goals.{Start}
use Rattle.rounds.proofs.pass.Goals as goal

pub loop-b-init : goal.loop-b-init
loop-b-init g c =
    let a = c.args in
    let m = a.u * a.w in
    let z = factors_least a.u a.w (multiple-least m (length a.cells.now) c.requires.1 c.requires.0) in
    let e : 0 * m ≡ 0 = omega arith in
    rw e (pass_start (factor (not (nat_eq g.row.SUM 0))) a.u a.w z.0 z.1 a.cells.now)

pub loop-b-preserved : goal.loop-b-preserved
loop-b-preserved g c =
    let a = c.args in
    let l = c.loop-b in
    let m = a.u * a.w in
    let z = factors_least a.u a.w (multiple-least m (length a.cells.now) c.requires.1 (omega arith)) in
    let h : l.b < length a.cells.now / m = omega arith in
    let k : l.b * m + m - l.b * m ≡ m = omega arith in
    let n : l.b * m + m ≡ (l.b + 1) * m = omega arith in
    let s = factor (not (nat_eq g.row.SUM 0)) in
    pass_step s a.u a.w z.0 z.1 a.cells.now (l.b * m) (l.b * m + m - l.b * m)
    l.cells c.block.new.cells (mul-mod_left l.b m) (omega (arith, div-add-mod' (length a.cells.now) m, mul-le-mul_right m h)) k l.invariant c.block.ensures
    ∙ ap (λ (at : ℕ). passed s a.u a.w (take at a.cells.now) ++ drop at a.cells.now) n
