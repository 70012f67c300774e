-- `comparison::compare` meets its contract: the text of the refusal, or of the verdict that the calls come to, is what is printed of the two files.
use mathlib.Core.Path.{refl, sym, ◌∙◌, ap}
use lib.Dec.{lit<}
use Rattle.file.specs.Check.{max_steps}
use Rattle.printed.specs.Report.{report_of}
use Rattle.printed.proofs.InFull.{refused_reported}
use Rattle.report.proofs.Texts.{reported-whole}
use Rattle.sessions.specs.Session.{continued}
use Rattle.sessions.specs.declared.Continued.{Continued}
use Rattle.sessions.proofs.Pair.{opened_refused}
use Rattle.sizes.proofs.Answered.{ok-number, ok-value, err-refuses, err-number}
use Rattle.conclusion.specs.Conclusion.{call_budget}
use Rattle.comparison.proofs.Texts.{concluded-text, written_as}
use Rattle.comparison.proofs.compare.Goals as goal

pub returns-in_default : goal.returns-in_default
returns-in_default c =
    let f₁ = c.args.file1.now in
    let f₂ = c.args.file2.now in
    let e = sym c.in_default.is ∙ c.open_session.ensures in
    written_as
    (reported-whole f₁ f₂ _ _ _ c.requires
    ∙ ap (λ (r : Continued). report_of f₁ f₂ r.answer 0) c.continue_session-refused.ensures.answer
    ∙ ap (λ z. report_of f₁ f₂ (continued f₁ f₂ z call_budget max_steps).answer 0)
    (c.no_session.ensures ∙ sym (opened_refused f₁ f₂ (err-refuses _ _ _ e)))
    ∙ refused_reported _ _ (err-number _ _ _ e) call_budget max_steps 0 (lit< tt))
    c.report.ensures

pub conclude-conclusion-requires : goal.conclude-conclusion-requires
conclude-conclusion-requires c =
    let e = sym c.in-Ok.is ∙ c.open_session.ensures in
    record { file2_value = ok-number _ _ _ e; session_value = ok-value _ _ _ e; scratch_len = refl }

pub returns : goal.returns
returns c =
    let e = sym c.in-Ok.is ∙ c.open_session.ensures in
    written_as
    (reported-whole c.args.file1.now c.args.file2.now _ _ _ c.requires ∙ concluded-text _ _ (ok-number _ _ _ e) _ _ c.conclude-conclusion.ensures)
    c.report-2.ensures
