-- `continuing::state_refusal` meets its contract: where no test of a mark is passed, the position doesn't fit the mark.
-- Assumes nothing.
use mathlib.Core.Bool.{true, not}
use mathlib.Core.Path.{◌≡◌, sym, ◌∙◌, ap}
use Prim.Native.Nat.{ℕ}
use native.Mathlib.Omega.{arith}
use borrow.Author.Tests.{le-ltb, ne_eqb}
use Rattle.sizes.proofs.Answered.{err-answered}
use Rattle.sizes.proofs.Judged.{number_of}
use Rattle.sizes.specs.Sizes.{refused_by}
use Rattle.sizes.specs.declared.Sizes.{Sizes}
use Rattle.sessions.specs.Session.{same_sizes, misplaced, state_refusal}
use Rattle.sessions.specs.declared.Mark.{Mark}
use Rattle.sessions.specs.declared.Mark.TheVariants.{Open, Equal, Differ}
use Rattle.sessions.specs.declared.Session.{Session}
use Rattle.continuing.proofs.state_refusal.Goals.{in_default-via-in-Open+else-position-size, in_default-via-in-Equal+else-position-size-2, in_default-via-in-Differ+else-within}
use Rattle.continuing.proofs.state_refusal.Goals as goal

by_102 :
    (z : Sizes) (G : ℕ) (σ : Session) (mark : Mark) → same_sizes σ.sizes z ≡ true → σ.mark ≡ mark → misplaced G σ.position mark ≡ true
    → refused_by 102 ≡ state_refusal z G σ
unfolding state_refusal
by_102 z G σ mark same e p = rw (same, e, p)

pub returns-in_default : goal.returns-in_default
unfolding misplaced
returns-in_default c =
    let a = c.args in
    let same = sym c.same_sizes.ensures ∙ c.if-not-same_sizes.false in
    let q = c.refused_by-in_default.ensures in
    let e : refused_by 102 ≡ state_refusal a.sizes a.size a.session =
    elim c.in_default.branch [
      | in_default-via-in-Open+else-position-size w ↦ by_102 _ _ _ Open same w.in-Open.is (ap not (le-ltb _ _ w.if-position-size.false))
      | in_default-via-in-Equal+else-position-size-2 w ↦ by_102 _ _ _ Equal same w.in-Equal.is (ap not (ne_eqb _ _ w.if-position-size-2.false))
      | in_default-via-in-Differ+else-within w ↦ by_102 _ _ _ Differ same w.in-Differ.is (ap not (sym w.within.ensures ∙ w.if-within.false))
    ] in
    err-answered _ _ _ (q ∙ e) (λ z. omega (arith, number_of q, z))
