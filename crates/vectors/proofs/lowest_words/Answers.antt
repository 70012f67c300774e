-- `vectors::lowest_words` meets its contract. The loop's invariant: the words of the first i lowest values are in their place.
-- Assumes nothing.
use Rattle.std.proofs.Common.{◌≡◌, take, sym, refl, ap, ◌∙◌, arith, w64, rules}
use mathlib.Core.List.{map-map}
use mir.ValLaws.{to_z-of_z}
use Rattle.formats.specs.Bytes.{format_of}
use Rattle.formats.specs.Formats.{lowest}
use Rattle.grid.specs.Grid.{lows_of}
use Rattle.grid.proofs.Filled.{filled_more, filled-all}
use Rattle.sizes.specs.Padded.{padded}
use Rattle.sizes.specs.Sizes.{formats_of}
use Rattle.words.specs.Words.{word}
use Rattle.vectors.specs.Vectors.{low_words}
use Rattle.vectors.proofs.lowest_words.Goals.{After-word_of}
use Rattle.vectors.proofs.lowest_words.Invariants.{low_of}
use Rattle.vectors.proofs.lowest_words.Goals as goal

pub loop-i-init : goal.loop-i-init
loop-i-init c = record { known = search rules; within = omega arith; filled = refl }

pub loop-i-preserved : goal.loop-i-preserved
loop-i-preserved c =
    filled_more low_of _ _ _ _ c.loop-i.invariant c.requires.inputs_high _ c.loop-i-test.true
    (c.word_of.ensures
    ∙ ap word (to_z-of_z w64 _ (record { sfits = c.lowest_value.type_inv }) ∙ c.lowest_value.ensures ∙ ap lowest c.format_of.ensures))

pub returns : goal.returns
unfolding low_words lows_of
returns c =
    let z = c.args.z in
    let l = c.loop-i in
    let all : l.i ≡ z.d = omega (arith, l.invariant.within, c.loop-i-test.false) in
    filled-all low_of z.d z.widths l.lows l.i l.invariant c.requires.inputs_high all
    ∙ ap padded (sym (map-map word lowest (formats_of z) ∙ map-map (λ f. word (lowest f)) format_of (take z.d z.widths)))
