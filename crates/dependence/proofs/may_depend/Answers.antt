-- `dependence::may_depend` meets its contract: where it answers false step k is another input, a constant, or has two operands whose flags are 0.
-- Assumes nothing.
use mathlib.Core.Path.{◌≡◌}
use Prim.Native.Nat.{ℕ, ◌<◌}
use mathlib.Core.Logic.{⊎_elim}
use native.Mathlib.Omega.{arith}
use borrow.Author.Tests.{eqb-false}
use lib.IntN.{◌+ℤ◌, ◌-ℤ◌, ◌*ℤ◌}
use lib.ListN.{length}
use Rattle.file.proofs.Accepted.{Is, is}
use Rattle.datapath.specs.declared.Step.{Step}
use Rattle.dependence.proofs.Values.{fixed_input, fixed_constant, fixed_pair, value-sum, value-difference, value-product}
use Rattle.dependence.proofs.may_depend.Goals.{After-step_at}
use Rattle.dependence.proofs.may_depend.Goals as goal

-- step k is what is read of it
read : (b : After-step_at) (u : Step) → b.step_at.result ≡ u → Is b.args.file.now b.args.k u
read b u q = is _ _ _ b.requires.counted b.requires.k_lt_n.0 _ u b.step_at.ensures q

-- operands before step k have flags
flagged : (b : After-step_at) (l r : ℕ) → (l < b.args.k) × (r < b.args.k) → (l < length b.args.flags.now) × (r < length b.args.flags.now)
flagged b l r h = (omega (arith, h.0, b.requires.k_lt_n.1), omega (arith, h.1, b.requires.k_lt_n.1))

pub either_flagged-requires : goal.either_flagged-requires
either_flagged-requires c =
    let b = (goal.at.either_flagged-requires c).After-step_at in
    flagged b _ _ (⊎_elim (λ e. (read b _ e).rule) (λ f. ⊎_elim (λ e. (read b _ e).rule) (λ e. (read b _ e).rule) f) c.in-Add.is)

pub returns-in-Input : goal.returns-in-Input
returns-in-Input c fixed e =
    let i = read (goal.at.returns-in-Input c).After-step_at _ c.in-Input.is in
    fixed_input _ _ _ i.inside _ i.step (eqb-false _ _ e)

pub returns-in-Constant : goal.returns-in-Constant
returns-in-Constant c fixed e =
    let i = read (goal.at.returns-in-Constant c).After-step_at _ c.in-Constant.is in
    fixed_constant _ _ _ i.inside _ i.step

pub returns-in-Add : goal.returns-in-Add
returns-in-Add c fixed e =
    let b = (goal.at.returns-in-Add c).After-step_at in
    let u = c.either_flagged.ensures e in
    ⊎_elim
    (λ q. let i = read b _ q in fixed_pair _ _ _ i.inside ◌+ℤ◌ _ _ (λ x. value-sum _ x _ i.inside _ _ i.rule.0 i.rule.1 i.step) (fixed _ i.rule.0 u.0) (fixed _ i.rule.1 u.1))
    (λ f. ⊎_elim
    (λ q. let i = read b _ q in fixed_pair _ _ _ i.inside ◌-ℤ◌ _ _ (λ x. value-difference _ x _ i.inside _ _ i.rule.0 i.rule.1 i.step) (fixed _ i.rule.0 u.0) (fixed _ i.rule.1 u.1))
    (λ q. let i = read b _ q in fixed_pair _ _ _ i.inside ◌*ℤ◌ _ _ (λ x. value-product _ x _ i.inside _ _ i.rule.0 i.rule.1 i.step) (fixed _ i.rule.0 u.0) (fixed _ i.rule.1 u.1))
    f)
    c.in-Add.is
