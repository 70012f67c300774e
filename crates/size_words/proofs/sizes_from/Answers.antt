-- `size_words::sizes_from` meets its contract: each of the words fits a byte. The loop's invariant: the first i word lengths are read.
-- Assumes nothing.
use mathlib.Core.List.{append-nil}
use mathlib.Core.Path.{sym, ◌∙◌}
use native.Mathlib.Omega.{arith}
use lib.ListN.{get_or, length-drop}
use lib.Seq.{get_or-drop}
use Rattle.layouts.specs.SizeWords.{sizes_from}
use Rattle.slices.proofs.Copied.{more, whole}
use Rattle.size_words.proofs.sizes_from.Goals as goal

pub loop-i-preserved : goal.loop-i-preserved
loop-i-preserved c =
    more _ _ _ _ _ c.loop-i.invariant _ c.loop-i-test.true (simp length-drop (omega (arith, c.requires.long))) (omega arith)
    (sym (get_or-drop 2 c.args.words.now c.loop-i.i 0))

pub returns : goal.returns
unfolding sizes_from
returns c =
    let w = c.args.words.now in
    let read = whole _ _ _ _ _ c.loop-i.invariant c.loop-i-test.false ∙ append-nil _ in
    λ i. record { m = get_or w 0 0; d = get_or w 1 0; widths = read i }
