-- `writing::put_value` meets its contract, by the sign of the value. Assumes nothing.
use mathlib.Core.List.{[], ◌∷◌, ◌++◌}
use mathlib.Core.Path.{◌≡◌, sym, ◌∙◌}
use Prim.Native.Nat.{◌+◌, ◌-◌, ◌^◌, ◌≤◌}
use native.Mathlib.Omega.{arith}
use Rattle.input_words.specs.InputWords.{value_of}
use Rattle.text.specs.Decimal.{decimal, minus}
use Rattle.text.specs.Text.{space, spaced, spaced_integers}
use Rattle.text.proofs.Over.{room-first, room-second, put_then}
use Rattle.writing.proofs.Values.{value-natural, value-negative}
use Rattle.writing.proofs.put_value.Goals.{Else-is_negative, Then-is_negative}
use Rattle.writing.proofs.put_value.Goals as goal

-- a negative value, and one that is not
negative :
    (c : Then-is_negative) →
    let a = c.args in
    (2 ^ 63 ≤ a.w) × (spaced_integers (value_of a.format a.w ∷ []) ≡ (space ∷ minus ∷ []) ++ decimal (2 ^ 64 - 1 - a.w + 1))
negative c = value-negative c.args.format c.args.w c.ranges.w.fits (sym c.is_negative.ensures ∙ c.if-is_negative.true)

natural :
    (c : Else-is_negative) →
    let a = c.args in
    spaced_integers (value_of a.format a.w ∷ []) ≡ spaced (a.w ∷ [])
natural c = value-natural c.args.format c.args.w c.ranges.w.fits (sym c.is_negative.ensures ∙ c.if-is_negative.false)

pub put_bytes-next-requires : goal.put_bytes-next-requires
put_bytes-next-requires c = room-first _ _ (rw (negative (goal.at.put_bytes-next-requires c).Then-is_negative).1 at c.requires)

pub overflow_add-w : goal.overflow_add-w
overflow_add-w c = let n = (negative (goal.at.overflow_add-w c).Then-is_negative).0 in omega arith

pub put_decimal-requires : goal.put_decimal-requires
put_decimal-requires c = room-second (rw (negative (goal.at.put_decimal-requires c).Then-is_negative).1 at c.requires) c.put_bytes-next.ensures

pub returns-then-is_negative : goal.returns-then-is_negative
returns-then-is_negative c =
    let e = (negative (goal.at.returns-then-is_negative c).Then-is_negative).1 in
    rw e (put_then (rw e at c.requires) c.put_bytes-next.ensures c.put_decimal.ensures)

pub put_number-requires : goal.put_number-requires
put_number-requires c = rw (natural (goal.at.put_number-requires c).Else-is_negative) at c.requires

pub returns : goal.returns
returns c = rw (natural (goal.at.returns c).Else-is_negative) c.put_number.ensures
