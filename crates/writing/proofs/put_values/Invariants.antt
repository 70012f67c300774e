-- `writing::put_values` meets its contract. The loop's invariant: the first i values are written, up to the next index. It ends where there are
-- no more width bytes, or no more words, and so no more values.
-- Assumes nothing.
use mathlib.Core.List.{List, map}
use mathlib.Core.Path.{◌≡◌}
use Prim.Native.Nat.{ℕ, ◌≤◌}
use lib.IntN.{ℤ}
use lib.ListN.{length, take}
use Rattle.formats.specs.Bytes.{format_of}
use Rattle.input_words.specs.InputWords.{values_of}
use Rattle.text.specs.Text.{spaced_integers}
use Rattle.text.specs.Writing.{Put}
use Rattle.writing.proofs.put_values.Given as goal

-- the values that are to be written
abbrev pub values : List ℕ → List ℕ → List ℤ
values widths ws = values_of (map format_of widths) ws

abbrev pub invariant-loop-i : goal.invariant-loop-i
invariant-loop-i l = (l.i ≤ length (values l.widths l.ws)) × (length l.text ≡ length l.initial.text) × Put (spaced_integers (take l.i (values l.widths l.ws))) l.initial.text l.text l.at l.next
