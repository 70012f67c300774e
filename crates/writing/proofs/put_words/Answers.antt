-- `writing::put_words` meets its contract: what each of the three calls writes comes after what was written before it. Assumes nothing.
use mathlib.Core.List.{◌++◌}
use Rattle.text.specs.Text.{spaced}
use Rattle.text.specs.Writing.{Put}
use Rattle.text.proofs.Over.{room-first, put_then}
use Rattle.writing.proofs.put_words.Goals.{After-put_numbers-last}
use Rattle.writing.proofs.put_words.Goals as goal

-- the word and the numbers
two :
    (c : After-put_numbers-last) →
    let a = c.args in
    Put (a.word.now ++ spaced a.ns.now) a.text.now c.put_numbers-last.new.text a.at c.put_numbers-last.result
two c = put_then (room-first _ _ c.requires) c.put_bytes-numbers.ensures c.put_numbers-last.ensures

pub returns : goal.returns
returns c = put_then c.requires (two (goal.at.returns c).After-put_numbers-last) c.put_bytes.ensures
