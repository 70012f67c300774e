-- `vectors::lowest_words` meets its contract. The loop's invariant: the words of the first i lowest values are in their place.
-- Assumes nothing.
use Rattle.std.proofs.Common.{ℕ}
use Rattle.formats.specs.Bytes.{format_of}
use Rattle.formats.specs.Formats.{lowest}
use Rattle.grid.proofs.Filled.{Filled}
use Rattle.words.specs.Words.{word}
use Rattle.vectors.proofs.lowest_words.Given as goal

-- the word of an input's lowest value, by its width byte
abbrev pub low_of : ℕ → ℕ
low_of b = word (lowest (format_of b))

abbrev pub invariant-loop-i : goal.invariant-loop-i
invariant-loop-i l = Filled low_of l.z.d l.z.widths l.lows l.i
