-- `file_tables::fill_table` meets its contract: the outputs over the grid, differenced modulo 2^m, are the table of the exact values.
-- Assumes nothing.
use mathlib.Core.List.{◌++◌}
use mathlib.Core.Path.{◌≡◌, ◌∙◌, ap}
use lib.ListN.{drop, replicate}
use borrow.Author.Rules.{rules}
use Rattle.slices.specs.Slices.{cleared}
use Rattle.file_tables.proofs.Files.{sizes-ruled, filling, differencing, filled}
use Rattle.file_tables.proofs.fill_table.Goals as goal

pub lowest_words-lows-requires : goal.lowest_words-lows-requires
lowest_words-lows-requires c = sizes-ruled c.requires

pub fill_outputs-requires : goal.fill_outputs-requires
fill_outputs-requires c = rw c.from-d.ensures (filling c.requires _ c.lowest_words-lows.ensures)

pub transform_front-requires : goal.transform_front-requires
transform_front-requires c = rw (c.from-d.ensures, c.from-m.ensures) (differencing c.requires _ c.fill_outputs.auto.table)

pub returns : goal.returns
returns c =
    let all_zero : c.fill.new.self ≡ replicate c.args.n 0 = search rules in
    record {
      table = filled c.requires _ _ c.fill_outputs.ensures.table (rw (c.from-d.ensures, c.from-m.ensures) at c.transform_front.ensures);
      scratch =
          ap (λ l. l ++ drop c.args.n c.fill_outputs.new.scratch) all_zero
          ∙ ap (λ l. replicate c.args.n 0 ++ l) c.fill_outputs.ensures.scratch
          ∙ ap (λ k. cleared k c.args.scratch.now) c.requires.steps;
    }
