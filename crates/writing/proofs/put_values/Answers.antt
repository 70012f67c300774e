-- `writing::put_values` meets its contract. The loop's invariant: the first i values are written, up to the next index. It ends where there are
-- no more width bytes, or no more words, and so no more values.
-- Assumes nothing.
use mathlib.Core.List.{List}
use mathlib.Core.Path.{◌≡◌, refl}
use Prim.Native.Nat.{◌≤◌, ◌<◌}
use native.Mathlib.Omega.{arith}
use borrow.Author.Rules.{rules}
use lib.IntN.{ℤ, pos}
use lib.ListN.{length, get_or}
use lib.Seq.{take_all}
use Rattle.input_words.specs.InputWords.{value_of}
use Rattle.text.specs.Decimal.{integer}
use Rattle.text.specs.Text.{spaced_by, spaced_integers}
use Rattle.text.specs.Writing.{Put}
use Rattle.text.proofs.Over.{room-second, put-start, put_then}
use Rattle.text.proofs.Spaced.{spaced-step, spaced-room}
use Rattle.writing.proofs.Values.{length-written, written_entry}
use Rattle.writing.proofs.put_values.Goals.{After-format_of, At-loop-i}
use Rattle.writing.proofs.put_values.Invariants.{values}
use Rattle.writing.proofs.put_values.Goals as goal

-- the values, from the head of the loop
abbrev written : At-loop-i → List ℤ
written turn = values turn.args.widths.now turn.args.ws.now

-- there is a value for each of both
more : (c : After-format_of) → c.loop-i.i < length (values c.args.widths.now c.args.ws.now)
more c = let a = c.args in omega (arith, length-written a.widths.now a.ws.now, c.loop-i-test.true)

-- and its word gives it, from the place where its format is known
value :
    (c : After-format_of) →
    get_or (values c.args.widths.now c.args.ws.now) c.loop-i.i (pos 0) ≡ value_of c.format_of.result (get_or c.args.ws.now c.loop-i.i 0)
value c =
    let a = c.args in
    rw c.format_of.ensures (written_entry a.widths.now a.ws.now c.loop-i.i (omega (arith, c.loop-i-test.true)) (omega (arith, c.loop-i-test.true)))

-- all values are written where there are no more of them
all :
    (turn : At-loop-i) →
    let a = turn.args in
    length (written turn) ≤ turn.loop-i.i → Put (spaced_integers (written turn)) a.text.now turn.loop-i.text a.at turn.loop-i.next
all turn h = rw (take_all turn.loop-i.i (written turn) h) at turn.loop-i.invariant.2

pub loop-i-init : goal.loop-i-init
unfolding spaced_by
loop-i-init c = (omega arith, refl, put-start _ _)

pub put_value-next-requires : goal.put_value-next-requires
put_value-next-requires c =
    rw (value (goal.at.put_value-next-requires c).After-format_of) at
    (room-second (spaced-room integer (written (goal.at.put_value-next-requires c).At-loop-i) c.loop-i.i (pos 0) (more (goal.at.put_value-next-requires c).After-format_of) c.requires) c.loop-i.invariant.2)

pub loop-i-preserved : goal.loop-i-preserved
loop-i-preserved c =
    let i = c.loop-i.i in
    let room = spaced-room integer (written (goal.at.loop-i-preserved c).At-loop-i) i (pos 0) (more (goal.at.loop-i-preserved c).After-format_of) c.requires in
    let put = rw (← value (goal.at.loop-i-preserved c).After-format_of) at c.put_value-next.ensures in (
      omega (arith, more (goal.at.loop-i-preserved c).After-format_of),
      search rules,
      rw (spaced-step integer (written (goal.at.loop-i-preserved c).At-loop-i) i (pos 0) (more (goal.at.loop-i-preserved c).After-format_of)) (put_then room c.loop-i.invariant.2 put),
    )

pub returns : goal.returns
returns c =
    let a = c.args in
    all (goal.at.returns c).At-loop-i (omega (arith, length-written a.widths.now a.ws.now, c.loop-i-test.false))
