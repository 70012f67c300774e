-- `report::report` meets its contract, by the kind of the answer: the text has room in a slice of text_room bytes, since the numbers of an
-- answer that the function is given are words.
-- Assumes nothing.
use mathlib.Core.Path.{◌≡◌, ap}
use mathlib.Core.List.{List}
use mathlib.Core.Logic.{⊎_elim}
use Prim.Native.Nat.{ℕ, ◌≤◌}
use native.Mathlib.Omega.{arith}
use lib.ListN.{length}
use mir.Syntax.{w64}
use mir.Val.{Fits}
use Rattle.sessions.specs.declared.Answer.{Answer}
use Rattle.printed.specs.Claims.{Words}
use Rattle.report.specs.Report.{report_of, text_room, reported}
use Rattle.text.specs.Writing.{RoomFor, Put, TextWritten}
use Rattle.printed.proofs.Fits.{fits}
use Rattle.text.proofs.Over.{put-start, at_front}
use Rattle.printed.proofs.Texts.{report_refused, report_spent, report_equivalent, report_differs}
use Rattle.report.proofs.Texts.{reported-short, reported-whole}
use Rattle.printed.proofs.Words.{words}
use Rattle.report.proofs.report.Goals.{Else-text-lt-TEXT_ROOM}
use Rattle.report.proofs.report.Goals as goal

module _ (f₁ f₂ : List ℕ) (a : Answer) (n : ℕ) (before : List ℕ) (room : text_room ≤ length before) where
  -- there is room for a text that is the report
  fits_in : (t : List ℕ) → report_of f₁ f₂ a n ≡ t → Words a → Fits w64 n → RoomFor t before 0
  fits_in t e w h = record { fits = omega (arith, fits f₁ f₂ a n w h.fits, ap length e) }

  -- and then it is what is written
  written :
      (t after : List ℕ) (r : ℕ) → report_of f₁ f₂ a n ≡ t → Put t before after 0 r →
      TextWritten (reported f₁ f₂ a n (length before)) before after r
  written t after r e p = rw (reported-whole f₁ f₂ a n (length before) room, e) (at_front p)

given : (c : Else-text-lt-TEXT_ROOM) → Words c.args.answer
given c = words c.args.answer _ c.well_formed.1.1.0

pub returns-then-text-lt-TEXT_ROOM : goal.returns-then-text-lt-TEXT_ROOM
returns-then-text-lt-TEXT_ROOM c =
    let a = c.args in
    let short = reported-short a.file1.now a.file2.now a.answer a.run (length a.text.now) (omega (arith, c.if-text-lt-TEXT_ROOM.true)) in
    rw short (at_front (put-start _ 0))

pub put_refusal-requires : goal.put_refusal-requires
put_refusal-requires c =
    let a = c.args in
    fits_in a.file1.now a.file2.now _ _ _ c.if-text-lt-TEXT_ROOM.false _
    (report_refused _ _ _ _ c.in-Refused.is) (given (goal.at.put_refusal-requires c).Else-text-lt-TEXT_ROOM) c.ranges.run

pub put_comparison-requires : goal.put_comparison-requires
put_comparison-requires c = fits_in _ _ _ _ _ c.if-text-lt-TEXT_ROOM.false _ (⊎_elim (report_equivalent _ _ _ _) (report_differs _ _ _ _) c.in-Equivalent.is) (given (goal.at.put_comparison-requires c).Else-text-lt-TEXT_ROOM) c.ranges.run

pub returns-in-Refused : goal.returns-in-Refused
returns-in-Refused c =
    written _ _ _ _ _ c.if-text-lt-TEXT_ROOM.false _ _ _
    (report_refused _ _ _ _ c.in-Refused.is) c.put_refusal.ensures

pub returns-in-Spent : goal.returns-in-Spent
returns-in-Spent c = written _ _ _ _ _ c.if-text-lt-TEXT_ROOM.false _ _ _ (report_spent _ _ _ _ c.in-Spent.is) (put-start _ 0)

pub returns-in-Equivalent : goal.returns-in-Equivalent
returns-in-Equivalent c =
    written _ _ _ _ _ c.if-text-lt-TEXT_ROOM.false _ _ _
    (⊎_elim (report_equivalent _ _ _ _) (report_differs _ _ _ _) c.in-Equivalent.is) c.put_comparison.ensures
