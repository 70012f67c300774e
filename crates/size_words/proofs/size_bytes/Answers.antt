-- `size_words::size_bytes` meets its contract: the closure tests one word, and `all` asks it of each of the first. Assumes nothing.
use mathlib.Core.Path.{◌∙◌}
use borrow.Author.Rules.{rules}
use lib.Dec.{ltb}
use lib.ListN.{take}
use Rattle.std.proofs.lemmas.Iterator.{YieldsList-from_slice}
use Rattle.std.proofs.lemmas.Iterator.Search.{all_from_yields_List}
use Rattle.layouts.specs.Lengths.{sizes_length}
use Rattle.layouts.specs.SizeWords.{size_bytes, fits_byte}
use Rattle.ranges.proofs.Every.{all_entries}
use Rattle.size_words.proofs.size_bytes.Goals as goal

pub returns : goal.returns
unfolding size_bytes fits_byte
returns c =
    let w = c.args.words.now in
    all_from_yields_List (λ x. ltb x 256) _ _ c.all.result c.all.ensures.ran
    (YieldsList-from_slice (take sizes_length w) c.iter.ensures.rest) (λ x b q k. search rules)
    ∙ all_entries (λ x. ltb x 256) w sizes_length c.requires
