-- `transform::passes` meets its contract. Before the axis i, the blocks of the grid of the axes from i on are done, and w is its size.
-- Assumes nothing.
use Rattle.std.proofs.Common.{◌≡◌, ℕ, ◌*◌, ◌-◌, ◌%◌, ◌∷◌, List, [], length, get_or, drop, not, nat_eq, sym, ◌∙◌, ap, ap₂, arith, drop_of_length-le}
use native.Mathlib.Nat.{mul_comm}
use Rattle.places.specs.Places.{size}
use Rattle.rounds.specs.Passes.{factor, passed}
use Rattle.rounds.proofs.Multiples.{factors_least, multiple-least, multiple-most}
use Rattle.transform.specs.Transform.{blockwise}
use Rattle.transform.proofs.Axes.{size-multiple, drop-axis}
use Rattle.transform.proofs.Blocks.{blockwise-start, blockwise-step, blockwise_end}
use Rattle.transform.proofs.passes.Goals.{In-loop-i}
use Rattle.transform.proofs.passes.Goals as goal

-- the axis before i, and the axes from it on
axis :
    (g : _) (c : In-loop-i g)
    → let a = c.args in
    let l = c.loop-i in
    (drop (l.i - 1) a.axes.now ≡ get_or a.axes.now (l.i - 1) 0 ∷ drop l.i a.axes.now)
    × (length a.cells.now % (get_or a.axes.now (l.i - 1) 0 * l.w) ≡ 0)
axis g c =
    let a = c.args in
    let l = c.loop-i in
    let e = drop-axis a.axes.now l.i (omega arith) (omega arith) in (
      e,
      ap₂ (λ (n k : ℕ). n % (get_or a.axes.now (l.i - 1) 0 * k)) (sym c.requires.1) l.invariant.0
          ∙ size-multiple a.axes.now (l.i - 1) (get_or a.axes.now (l.i - 1) 0) (drop l.i a.axes.now) e,
    )

pub loop-i-init : goal.loop-i-init
unfolding size
loop-i-init g c =
    let a = c.args in
    let none : drop (length a.axes.now) a.axes.now ≡ [] = drop_of_length-le a.axes.now {i = length a.axes.now} (omega arith) in (
      sym (ap size none),
      sym
          (ap (λ (vs : List ℕ). blockwise (factor (not (nat_eq g.row.SUM 0))) vs a.cells.now) none
          ∙ blockwise-start (factor (not (nat_eq g.row.SUM 0))) a.cells.now (λ q. (c.type_inv.cells q).fits)),
    )

pub pass-requires : goal.pass-requires
pass-requires g c =
    let a = c.args in
    let l = c.loop-i in
    (omega arith, ap (λ (n : ℕ). n % (get_or a.axes.now (l.i - 1) 0 * l.w)) l.auto.cells ∙ (axis g (goal.at.pass-requires g c).In-loop-i).1)

pub overflow_mul-w : goal.overflow_mul-w
overflow_mul-w g c = omega (arith, multiple-most _ _ (axis g (goal.at.overflow_mul-w g c).In-loop-i).1 c.requires.0)

pub loop-i-preserved : goal.loop-i-preserved
unfolding size
loop-i-preserved g c =
    let a = c.args in
    let l = c.loop-i in
    let e = axis g (goal.at.loop-i-preserved g c).In-loop-i in
    let s = factor (not (nat_eq g.row.SUM 0)) in
    let u = get_or a.axes.now (l.i - 1) 0 in
    let vs = drop l.i a.axes.now in
    let z = factors_least u l.w (multiple-least (u * l.w) (length a.cells.now) e.1 c.requires.0) in (
      mul_comm l.w u ∙ ap (λ (w : ℕ). u * w) l.invariant.0 ∙ sym (ap size e.0),
      c.pass.ensures
          ∙ ap₂ (passed s u) l.invariant.0 l.invariant.1
          ∙ blockwise-step s u vs a.cells.now z.0 (rw l.invariant.0 at z.1)
          ∙ ap (λ (ws : List ℕ). blockwise s ws a.cells.now) (sym e.0),
    )

pub returns : goal.returns
returns g c =
    let a = c.args in
    let l = c.loop-i in
    let s = factor (not (nat_eq g.row.SUM 0)) in
    let none : l.i ≡ 0 = omega arith in
    l.invariant.1
    ∙ ap (λ (i : ℕ). blockwise s (drop i a.axes.now) a.cells.now) none
    ∙ blockwise_end s a.axes.now a.cells.now (sym c.requires.1)
