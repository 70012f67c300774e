-- `writing::put_halves` meets its contract: the line is its first half up to the sign, and the numbers after that as a line. Assumes nothing.
use mathlib.Core.List.{◌++◌}
use Rattle.text.specs.Text.{line, spaced}
use Rattle.text.specs.Writing.{RoomFor}
use Rattle.text.proofs.Over.{put_then}
use Rattle.text.proofs.Spaced.{line-halves}
use Rattle.writing.proofs.put_halves.Goals.{Start}
use Rattle.writing.proofs.put_halves.Goals as goal

-- the room for the line, in the two parts that are written
room :
    (s : Start) →
    let a = s.args in
    RoomFor (a.word.now ++ spaced a.ns.now ++ a.sign.now ++ line (spaced a.ms.now)) a.text.now a.at
room s = rw line-halves at s.requires

pub returns : goal.returns
returns c = rw line-halves (put_then (room (goal.at.returns c).Start) c.put_words-next.ensures c.put_words.ensures)
