-- `file::check_as` meets its contract: at each return, what the head's fault and the first faulty step make of the number. Assumes nothing.
use mathlib.Core.Path.{◌≡◌, sym, ◌∙◌}
use Prim.Native.Nat.{◌≤◌, ◌<◌, ◌-◌}
use native.Mathlib.Omega.{arith}
use Rattle.ranges.proofs.Search.{first-start, first-here, first_step, first_end}
use Rattle.sizes.proofs.Answered.{ok-answered, err-answered}
use Rattle.fields.specs.File.{step_count}
use Rattle.fields.proofs.Heads.{head-short}
use Rattle.file.specs.Check.{head_fault, faulty_at, faulty_step}
use Rattle.file.specs.Headed.{Headed}
use Rattle.file.proofs.Cases.{fault-some, fault-none, faulty, faultless}
use Rattle.file.proofs.Number.{Head, head_passed, refused-head, refused-faulty, refusal-number, number-sound}
use Rattle.file.proofs.check_as.Goals.{After-step_count-n, In_default}
use Rattle.file.proofs.check_as.Goals as goal

sound : (c : In_default) → head_fault c.args.file.now ≡ 0
sound c = fault-none _ (sym c.in_default.is ∙ c.head_fault.ensures)

passed : (c : In_default) → Head c.args.file.now
passed c = head_passed _ (sound c)

headed : (c : After-step_count-n) → Headed c.args.file.now c.read_sizes-z.result c.step_count-n.result
headed c =
    record {
      sizes = c.read_sizes-z.ensures;
      count = c.step_count-n.ensures.0;
      size = omega (arith, (passed (goal.at.loop-k-init c).In_default).size, c.step_count-n.ensures);
    }

pub returns-in-Some : goal.returns-in-Some
returns-in-Some c =
    let p = fault-some _ _ c.in-Some.ensures in
    err-answered _ _ _ (refused-head _ _ p.0 (λ z. p.1 (sym p.0 ∙ z))) (λ z. p.1 (sym p.0 ∙ z))

pub read_sizes-z-requires : goal.read_sizes-z-requires
read_sizes-z-requires c = (passed c).long

pub step_count-n-requires : goal.step_count-n-requires
step_count-n-requires c = head-short _ (passed (goal.at.step_count-n-requires c).In_default).long

pub loop-k-init : goal.loop-k-init
unfolding faulty_step
loop-k-init c = first-start _ _

pub step_fault-requires : goal.step_fault-requires
step_fault-requires c = (headed (goal.at.step_fault-requires c).After-step_count-n, c.loop-k-test.true)

pub returns-in-Some-step_fault : goal.returns-in-Some-step_fault
returns-in-Some-step_fault c =
    let s = c.args.file.now in
    let l : c.loop-k.k < step_count s = omega (arith, c.loop-k-test.true, c.step_count-n.ensures) in
    let p = fault-some _ _ c.in-Some-step_fault.ensures in
    let here = c.loop-k.invariant ∙ first-here (faulty_at s) c.loop-k.k (step_count s - c.loop-k.k) (faulty _ _ p.1) in
    err-answered _ _ _ (refused-faulty _ (sound (goal.at.returns-in-Some-step_fault c).In_default) _ (sym here) p.0 l) (λ z. p.1 (sym p.0 ∙ z))

pub loop-k-preserved : goal.loop-k-preserved
loop-k-preserved c =
    let s = c.args.file.now in
    let kept = faultless _ _ (fault-none _ (sym c.in_default-step_fault.is ∙ c.step_fault.ensures)) in
    c.loop-k.invariant ∙ first_step (faulty_at s) _ _ (omega (arith, c.loop-k-test.true, c.step_count-n.ensures)) kept

pub returns : goal.returns
returns c =
    let s = c.args.file.now in
    let past : step_count s ≤ c.loop-k.k = omega (arith, c.loop-k-test.false, c.step_count-n.ensures) in
    let none = c.loop-k.invariant ∙ first_end (faulty_at s) _ _ past in
    ok-answered _ _ (refusal-number s _ ∙ number-sound s (sound (goal.at.returns c).In_default) (omega arith))
