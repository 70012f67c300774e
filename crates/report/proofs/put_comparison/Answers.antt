-- `report::put_comparison` meets its contract: three lines one after the other, of a file that the accepted opening tells is accepted.
-- Assumes nothing.
use mathlib.Core.Path.{◌≡◌, sym, ◌∙◌, ap}
use mathlib.Core.List.{◌++◌}
use native.Mathlib.Omega.{arith}
use Rattle.sessions.specs.Session.{opened}
use Rattle.sizes.proofs.Answered.{is_err-number, not_err-number}
use Rattle.sizes.specs.declared.Sizes.{Sizes}
use Rattle.printed.specs.Report.{grid_text, shown_text, concluded}
use Rattle.printed.specs.Lines.{run_line}
use Rattle.text.specs.Writing.{RoomFor, Put}
use Rattle.text.proofs.Over.{room-first, room-second, put-start, put_then}
use Rattle.printed.proofs.Texts.{concluded-refused, concluded-lines, first-accepted}
use Rattle.report.proofs.put_comparison.Goals.{After-put_verdict-third, After-read_sizes-sizes, Else-is_err}
use Rattle.report.proofs.put_comparison.Goals as goal

pub returns-then-is_err : goal.returns-then-is_err
returns-then-is_err c =
    let a = c.args in
    rw (concluded-refused a.file1.now a.file2.now a.answer a.run (is_err-number _ _ _ c.open_session.ensures c.if-is_err.ensures.value)) (put-start _ 0)

-- opening is accepted where the lines are written
accepted : (c : Else-is_err) →
    let a = c.args in
    (opened a.file1.now a.file2.now).refusal.number ≡ 0
accepted c = not_err-number _ _ _ c.open_session.ensures c.if-is_err.ensures.value

-- the three lines, where the sizes are read
three : (c : After-read_sizes-sizes) →
    let a = c.args in
    concluded a.file1.now a.file2.now a.answer a.run ≡
    grid_text a.file1.now ++ shown_text a.answer.kind c.read_sizes-sizes.result a.answer ++ run_line a.run
three c = rw c.read_sizes-sizes.ensures (concluded-lines _ _ (not_err-number _ _ _ c.open_session.ensures c.if-is_err.ensures.value) _ _)

room : (c : After-read_sizes-sizes) →
    let a = c.args in
    RoomFor (grid_text a.file1.now ++ shown_text a.answer.kind c.read_sizes-sizes.result a.answer ++ run_line a.run)
    a.text.now 0
room c = rw (three c) at c.requires

pub read_sizes-sizes-requires : goal.read_sizes-sizes-requires
read_sizes-sizes-requires c = (first-accepted _ _ (accepted c)).long

pub put_grid-second-requires : goal.put_grid-second-requires
put_grid-second-requires c = record { accepted = first-accepted _ _ (accepted (goal.at.put_grid-second-requires c).Else-is_err); room_for = room-first _ _ (room-first _ _ (room (goal.at.put_grid-second-requires c).After-read_sizes-sizes)) }

pub put_verdict-third-requires : goal.put_verdict-third-requires
put_verdict-third-requires c = record { d_le_max_inputs = omega (arith, (first-accepted _ _ (accepted (goal.at.put_verdict-third-requires c).Else-is_err)).inputs_high, ap (λ (z : Sizes). z.d) c.read_sizes-sizes.ensures); room_for = room-second (room-first _ _ (room (goal.at.put_verdict-third-requires c).After-read_sizes-sizes)) c.put_grid-second.ensures }

-- the first two lines, at the index after them
two : (c : After-put_verdict-third) →
    let a = c.args in
    Put (grid_text a.file1.now ++ shown_text a.answer.kind c.read_sizes-sizes.result a.answer)
    a.text.now c.put_verdict-third.new.text 0 c.put_verdict-third.result
two c =
    let a = c.args in
    let three' : concluded a.file1.now a.file2.now a.answer a.run ≡
    grid_text a.file1.now ++ shown_text a.answer.kind c.read_sizes-sizes.result a.answer ++ run_line a.run =
    rw c.read_sizes-sizes.ensures (concluded-lines _ _ (not_err-number _ _ _ c.open_session.ensures c.if-is_err.ensures.value) _ _) in
    put_then (room-first _ _ (rw three' at c.requires)) c.put_grid-second.ensures c.put_verdict-third.ensures

pub put_run-requires : goal.put_run-requires
put_run-requires c = room-second (room (goal.at.put_run-requires c).After-read_sizes-sizes) (two (goal.at.put_run-requires c).After-put_verdict-third)

pub returns : goal.returns
returns c = rw (three (goal.at.returns c).After-read_sizes-sizes) (put_then (room (goal.at.returns c).After-read_sizes-sizes) (two (goal.at.returns c).After-put_verdict-third) c.put_run.ensures)
