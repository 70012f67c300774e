-- `report_lines::put_difference` meets its contract: the line is its word, the values and what comes from the sign on, one after the other. The
-- sizes have a width byte for each of the d inputs. Assumes nothing.
use mathlib.Core.List.{List, [], ◌∷◌, ◌++◌, append_assoc}
use mathlib.Core.Path.{◌≡◌, sym}
use Prim.Native.Nat.{ℕ}
use native.Mathlib.Omega.{arith}
use borrow.Author.Rules.{rules}
use lib.ListN.{length}
use lib.Seq.{length-take-le}
use Rattle.evaluate.specs.Evaluate.{vector_of}
use Rattle.printed.specs.Lines.{differ_line}
use Rattle.printed.specs.Report.{shown_text}
use Rattle.sessions.specs.declared.Kind.TheVariants.{Differs}
use Rattle.sizes.specs.Sizes.{max_inputs}
use Rattle.text.specs.Text.{ascii, line_feed, line, spaced_integers, words}
use Rattle.text.specs.Writing.{RoomFor}
use Rattle.text.proofs.Over.{room-first, room-second, put_then}
use Rattle.report_lines.proofs.put_difference.Goals.{Start}
use Rattle.report_lines.proofs.put_difference.Goals as goal

-- the line in its three parts: the word, the values, and what comes from the sign on
abbrev values : Start → List ℕ
values s = spaced_integers (vector_of s.args.sizes s.args.answer.vector)

abbrev outputs : Start → List ℕ
outputs s = line (words " :" (s.args.answer.output1 ∷ s.args.answer.output2 ∷ []))

parts : (s : Start) → shown_text Differs s.args.sizes s.args.answer ≡ ascii "differ" ++ values s ++ outputs s
unfolding shown_text differ_line
parts s = append_assoc (ascii "differ" ++ values s) (words " :" (s.args.answer.output1 ∷ s.args.answer.output2 ∷ [])) (line_feed ∷ [])

room : (s : Start) → RoomFor (ascii "differ" ++ values s ++ outputs s) s.args.text.now s.args.at
room s = rw (parts s) at s.requires.room_for

room-two : (s : Start) → RoomFor (ascii "differ" ++ values s) s.args.text.now s.args.at
room-two s = room-first (ascii "differ" ++ values s) (outputs s) (room s)

pub put_bytes-values-requires : goal.put_bytes-values-requires
put_bytes-values-requires c = room-first (ascii "differ") (values (goal.at.put_bytes-values-requires c).Start) (room-two (goal.at.put_bytes-values-requires c).Start)

-- there is a width byte for each of the inputs
pub slice_bounds-put_values-end : goal.slice_bounds-put_values-end
slice_bounds-put_values-end c =
    let long : length c.args.sizes.widths ≡ max_inputs = search rules in
    sym (length-take-le _ _ (omega (arith, long, c.requires.d_le_max_inputs)))

pub put_values-sign-requires : goal.put_values-sign-requires
put_values-sign-requires c = room-second (room-two (goal.at.put_values-sign-requires c).Start) c.put_bytes-values.ensures

pub put_words-requires : goal.put_words-requires
put_words-requires c = room-second (room (goal.at.put_words-requires c).Start) (put_then (room-two (goal.at.put_words-requires c).Start) c.put_bytes-values.ensures c.put_values-sign.ensures)

pub returns : goal.returns
returns c = rw (parts (goal.at.returns c).Start) (put_then (room (goal.at.returns c).Start) (put_then (room-two (goal.at.returns c).Start) c.put_bytes-values.ensures c.put_values-sign.ensures) c.put_words.ensures)
