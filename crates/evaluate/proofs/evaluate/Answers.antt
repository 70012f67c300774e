-- `evaluate::evaluate` meets its contract: the answer by its two cases, and the scratch slice, whose first N entries are cleared.
-- Assumes nothing.
use Rattle.std.proofs.Common.{◌≡◌, ◌≤◌, ◌++◌, length, drop, replicate, sym, ap, ◌∙◌, arith}
use Rattle.std.specs.Prelude.{Ok}
use lib.Seq.{length-take-le}
use Rattle.fields.proofs.Heads.{head-short}
use Rattle.file.specs.Accepted.{Accepted}
use Rattle.file.proofs.Accepted.{accepted}
use Rattle.sizes.proofs.Answered.{ok-answered, ok-number, err-number, err-passed, err_exit}
use Rattle.evaluate.specs.Evaluate.{refusal_at}
use Rattle.evaluate.proofs.Answers.{Passed, passed, vector-long, scratch-refused, answer-accepted}
use Rattle.evaluate.proofs.Words.{given-output}
use Rattle.evaluate.proofs.evaluate.Goals.{In_ok-refusal_at}
use Rattle.evaluate.proofs.evaluate.Goals as goal

number :
    (c : In_ok-refusal_at) →
    let a = c.args in
    (refusal_at a.file.now a.vector.now (length a.scratch.now)).number ≡ 0
number c = ok-number _ _ _ c.in_ok-refusal_at.ensures

free :
    (c : In_ok-refusal_at) →
    let a = c.args in
    Passed a.file.now a.vector.now (length a.scratch.now)
free c = passed _ _ _ (number c)

file_rules : (c : In_ok-refusal_at) → Accepted c.args.file.now
file_rules c = accepted _ (free c).sound

pub returns-in_err-refusal_at : goal.returns-in_err-refusal_at
returns-in_err-refusal_at c =
    let e = c.in_err-refusal_at.ensures in
    record {
      answer = err_exit _ _ c.from_residual.ensures.1 ∙ err-passed _ _ _ e _;
      scratch = scratch-refused _ _ _ (err-number _ _ _ e);
    }

pub step_count-n-requires : goal.step_count-n-requires
step_count-n-requires c = head-short _ (file_rules c).long

pub output_at-output-requires : goal.output_at-output-requires
output_at-output-requires c =
    let p = (goal.at.output_at-output-requires c).In_ok-refusal_at in
    record {
      sound = file_rules p;
      count = c.step_count-n.ensures.0;
      inputs = omega (arith, vector-long _ _ (free p).fits);
      room = omega (arith, (free p).room, c.step_count-n.ensures.0);
    }

pub slice_bounds-fill-end : goal.slice_bounds-fill-end
slice_bounds-fill-end c =
    omega (arith, (free (goal.at.slice_bounds-fill-end c).In_ok-refusal_at).room, c.step_count-n.ensures.0, c.output_at-output.auto.scratch)

pub slice_bounds-fill-end-2 : goal.slice_bounds-fill-end-2
slice_bounds-fill-end-2 c =
    sym
    (length-take-le _ _
    (omega (arith, (free (goal.at.slice_bounds-fill-end-2 c).In_ok-refusal_at).room, c.step_count-n.ensures.0, c.output_at-output.auto.scratch)))

pub returns : goal.returns
returns c =
    let a = c.args in
    let p = (goal.at.returns c).In_ok-refusal_at in
    let long : c.step_count-n.result ≤ length c.output_at-output.new.scratch =
    omega (arith, (free p).room, c.step_count-n.ensures.0, c.output_at-output.auto.scratch) in
    let s = (answer-accepted a.file.now a.vector.now a.scratch.now (number p)).1 in
    record {
      answer =
          ap (λ o. Ok o)
          (c.output_at-output.ensures.output ∙ given-output _ (file_rules p) _ (vector-long _ _ (free p).fits))
          ∙ ok-answered _ _ (number p);
      scratch =
          ap (λ l. l ++ drop c.step_count-n.result c.output_at-output.new.scratch) (c.fill.ensures.after (λ y e. e))
          ∙ ap (λ k. replicate k 0 ++ drop c.step_count-n.result c.output_at-output.new.scratch) (length-take-le _ _ long)
          ∙ ap (λ l. replicate c.step_count-n.result 0 ++ l) c.output_at-output.ensures.kept
          ∙ ap (λ k. replicate k 0 ++ drop k a.scratch.now) c.step_count-n.ensures.0
          ∙ s;
    }
