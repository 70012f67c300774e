-- `opening::open_session` meets its contract, by its two cases.
-- Assumes nothing.
use mathlib.Core.Bool.{false}
use mathlib.Core.Path.{◌≡◌, ◌∙◌, ap}
use borrow.Author.Rules.{rules}
use borrow.Author.Tests.{eq-eqb}
use Rattle.std.specs.Prelude.{Ok, Err}
use Rattle.sizes.proofs.Answered.{ok-number, err-passed}
use Rattle.sizes.specs.Sizes.{is_refusal}
use Rattle.sizes.specs.declared.Sizes.{Sizes}
use Rattle.sessions.specs.Session.{pair_refusal, opened}
use Rattle.sessions.specs.declared.Mark.TheVariants.{Open}
use Rattle.sessions.specs.declared.Session.{Session}
use Rattle.sessions.proofs.Pair.{comparable}
use Rattle.opening.proofs.open_session.Goals.{In_ok-pair_refusal}
use Rattle.opening.proofs.open_session.Goals as goal

begun : Sizes → Session
begun z = record { sizes = z; position = 0; mark = Open }

pub returns-in_err-pair_refusal : goal.returns-in_err-pair_refusal
unfolding opened
returns-in_err-pair_refusal c =
    let r : c.from_residual.result ≡ Err c.in_err-pair_refusal.field-0.0 = search rules in
    r ∙ err-passed _ _ _ c.in_err-pair_refusal.ensures _

pub read_sizes-requires : goal.read_sizes-requires
read_sizes-requires c =
    let a = c.args in
    let free : is_refusal (pair_refusal a.file1.now a.file2.now) ≡ false = rw (eq-eqb _ 0 (ok-number _ _ _ c.in_ok-pair_refusal.ensures)) in
    (comparable _ _ free).sound₁.long

pub returns : goal.returns
unfolding opened begun
returns c =
    let e = ok-number _ _ _ c.in_ok-pair_refusal.ensures in
    rw (eq-eqb _ 0 e) (ap (λ (z : Sizes). Ok (begun z)) c.read_sizes.ensures)
