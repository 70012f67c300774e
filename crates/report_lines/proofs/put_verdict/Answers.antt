-- `report_lines::put_verdict` meets its contract, by the kind of the answer. Assumes nothing.
use mathlib.Core.Logic.{⊎_elim}
use mathlib.Core.Path.{◌≡◌, ap}
use Rattle.sessions.specs.declared.Kind.{Kind}
use Rattle.sessions.specs.declared.Kind.TheVariants.{Equivalent, Differs}
use Rattle.printed.specs.Report.{shown_text}
use Rattle.printed.specs.Lines.{equivalent_line}
use Rattle.text.proofs.Over.{put-start}
use Rattle.report_lines.proofs.put_verdict.Goals as goal

pub put_bytes-requires : goal.put_bytes-requires
unfolding shown_text equivalent_line
put_bytes-requires c =
    let told : c.args.answer.kind ≡ Equivalent = cc in
    rw told at c.requires.room_for

pub put_difference-requires : goal.put_difference-requires
put_difference-requires c =
    let told : c.args.answer.kind ≡ Differs = cc in
    let shown = ap (λ (k : Kind). shown_text k c.args.sizes c.args.answer) told in
    record { d_le_max_inputs = c.requires.d_le_max_inputs; room_for = rw shown at c.requires.room_for }

pub returns-in-Refused : goal.returns-in-Refused
unfolding shown_text
returns-in-Refused c = ⊎_elim (λ e. rw e (put-start _ _)) (λ e. rw e (put-start _ _)) c.in-Refused.is

pub returns-in-Equivalent : goal.returns-in-Equivalent
unfolding shown_text equivalent_line
returns-in-Equivalent c = rw c.in-Equivalent.is c.put_bytes.ensures

pub returns-in-Differs : goal.returns-in-Differs
returns-in-Differs c =
    let shown = ap (λ (k : Kind). shown_text k c.args.sizes c.args.answer) c.in-Differs.is in
    rw shown c.put_difference.ensures
