-- `file_calls::operations_call` meets its contract: an accepted file has a step, so that its stretch is empty only where it is refused.
-- Assumes nothing.
use mathlib.Core.Path.{refl, ◌∙◌, ap}
use mathlib.Core.Logic.{inl, inr}
use lib.ListN.{length}
use borrow.Author.Tests.{eq-eqb}
use Rattle.file_calls.specs.FileCalls.{operations_length}
use Rattle.file_calls.proofs.Answered.{stretch_head, operations-told}
use Rattle.layouts.proofs.Written.{all-written}
use Rattle.file_calls.proofs.operations_call.Goals.{then-n-eq0, else-n-eq0}
use Rattle.file_calls.proofs.operations_call.Goals as goal

pub head_of-requires : goal.head_of-requires
head_of-requires c = stretch_head _ (λ e. c.if-n-eq0.false (ap length c.operations.ensures.contents ∙ e))

pub returns : goal.returns
returns c =
    let long = c.if-out-ne-OPERATIONS_LENGTH.false in
    let out = c.args.out.now in
    let e = eq-eqb _ operations_length long in
    record {
      result = rw e;
      out =
          rw e
          (c.copy_front.ensures ∙ all-written operations_length _ out refl long ∙ operations-told _ _ _ (ap length c.operations.ensures.contents)
          (elim c.if-n-eq0.branch [ then-n-eq0 w ↦ inl (w.if-n-eq0.true, w.start-is) | else-n-eq0 w ↦ inr (w.if-n-eq0.false, w.start-is ∙ w.head_of.ensures) ]));
    }
