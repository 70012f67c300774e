-- `opening::pair_refusal` meets its contract: the tests that led to each answer are those of its case.
-- Assumes nothing.
use mathlib.Core.Path.{◌≡◌, sym, ◌∙◌, ap₂}
use native.Mathlib.Omega.{arith}
use borrow.Author.Rules.{rules}
use Rattle.std.specs.Prelude.{Err}
use Rattle.file.specs.Check.{file_number}
use Rattle.fields.specs.File.{sizes_of}
use Rattle.file.proofs.Accepted.{accepted}
use Rattle.file.proofs.Number.{refusal-number}
use Rattle.sizes.proofs.Answered.{ok-answered, err-answered, ok-number, err-number, err-refusal}
use Rattle.sizes.proofs.Judged.{number_of}
use Rattle.sessions.specs.Session.{same_sizes}
use Rattle.sessions.proofs.Pair.{pair-first, pair-second, pair_9, pair_0}
use Rattle.opening.proofs.pair_refusal.Goals.{After-same_sizes, In_ok-check_as, In_ok-check_as-2}
use Rattle.opening.proofs.pair_refusal.Goals as goal

sound₁ : (c : In_ok-check_as) → file_number c.args.file1.now ≡ 0
sound₁ c = sym (refusal-number _ 1) ∙ ok-number _ _ _ c.in_ok-check_as.ensures

sound₂ : (c : In_ok-check_as-2) → file_number c.args.file2.now ≡ 0
sound₂ c = sym (refusal-number _ 2) ∙ ok-number _ _ _ c.in_ok-check_as-2.ensures

tested :
    (c : After-same_sizes) →
    let a = c.args in
    same_sizes (sizes_of a.file1.now) (sizes_of a.file2.now) ≡ c.same_sizes.result
tested c = sym (c.same_sizes.ensures ∙ ap₂ same_sizes c.read_sizes.ensures c.read_sizes-2.ensures)

pub returns-in_err-check_as : goal.returns-in_err-check_as
returns-in_err-check_as c =
    let r : c.from_residual.result ≡ Err c.in_err-check_as.field-0.0 = search rules in
    let n = err-number _ _ _ c.in_err-check_as.ensures in
    let e = err-refusal _ _ _ c.in_err-check_as.ensures in
    r ∙ err-answered _ _ _ (e ∙ sym (pair-first _ _ (λ z. n (refusal-number _ 1 ∙ z)))) (λ z. n (sym (number_of e) ∙ z))

pub returns-in_err-check_as-2 : goal.returns-in_err-check_as-2
returns-in_err-check_as-2 c =
    let r : c.from_residual-in_err-check_as-2.result ≡ Err c.in_err-check_as-2.field-0.0 = search rules in
    let n = err-number _ _ _ c.in_err-check_as-2.ensures in
    let e = err-refusal _ _ _ c.in_err-check_as-2.ensures in
    r
    ∙ err-answered _ _ _
    (e ∙ sym (pair-second _ _ (sound₁ (goal.at.returns-in_err-check_as-2 c).In_ok-check_as) (λ z. n (refusal-number _ 2 ∙ z))))
    (λ z. n (sym (number_of e) ∙ z))

pub read_sizes-requires : goal.read_sizes-requires
read_sizes-requires c = (accepted _ (sound₁ (goal.at.read_sizes-requires c).In_ok-check_as)).long

pub read_sizes-requires-2 : goal.read_sizes-requires-2
read_sizes-requires-2 c = (accepted _ (sound₂ (goal.at.read_sizes-requires-2 c).In_ok-check_as-2)).long

pub returns-then-same_sizes : goal.returns-then-same_sizes
returns-then-same_sizes c =
    let at = goal.at.returns-then-same_sizes c in
    ok-answered _ _ (number_of (pair_0 _ _ (sound₁ at.In_ok-check_as) (sound₂ at.In_ok-check_as-2) (tested at.After-same_sizes ∙ c.if-same_sizes.true)))

pub returns-else-same_sizes : goal.returns-else-same_sizes
returns-else-same_sizes c =
    let at = goal.at.returns-else-same_sizes c in
    let e = c.refused_by.ensures ∙ sym (pair_9 _ _ (sound₁ at.In_ok-check_as) (sound₂ at.In_ok-check_as-2) (tested at.After-same_sizes ∙ c.if-same_sizes.false)) in
    err-answered _ _ _ e (λ z. omega (arith, number_of c.refused_by.ensures, z))
