-- `evaluate::refusal_at` passes on what the file is refused by. Assumes nothing.
use Rattle.std.proofs.Common.{◌∙◌}
use Rattle.file.proofs.Number.{refusal-number}
use Rattle.sizes.proofs.Answered.{err-number, err_exit}
use Rattle.evaluate.proofs.Answers.{at-file}
use Rattle.evaluate.proofs.refusal_at.Goals as goal

pub returns-in_err-check : goal.returns-in_err-check
returns-in_err-check c =
    let e = c.in_err-check.ensures in
    err_exit _ _ c.from_residual.ensures.1
    ∙ rw (at-file _ _ _ (λ z. err-number _ _ _ e (refusal-number c.args.file.now 1 ∙ z))) e
