-- `evaluate::output_at` meets its contract: the last of the values, cut to m bits. The entries past the n that are run stay.
-- Assumes nothing.
use Rattle.std.proofs.Common.{◌-◌, ◌%◌, ◌^◌, map, get_or, drop, ap, ◌∙◌, ap₂, drop_at}
use lib.ListN.{length-map}
use Rattle.fields.specs.Steps.{steps_of}
use Rattle.datapath.specs.Steps.{values}
use Rattle.datapath.proofs.Values.{length-values}
use Rattle.words.specs.Words.{word, plain}
use Rattle.evaluate.proofs.Words.{output-word}
use Rattle.evaluate.proofs.output_at.Goals as goal

pub returns : goal.returns
returns c =
    let a = c.args in
    record {
      output =
          c.cut.ensures
          ∙ ap₂ (λ l m. get_or l (a.n - 1) 0 % 2 ^ m) c.run.ensures c.output_length.ensures
          ∙ output-word a.file.now a.vector.now (drop a.n a.scratch.now) c.requires.sound a.n c.requires.count;
      kept =
          ap (drop a.n) c.run.ensures
          ∙ drop_at (map word (values (steps_of a.file.now) (plain a.vector.now) a.n)) (drop a.n a.scratch.now) a.n
          (rw (length-map, length-values));
    }
