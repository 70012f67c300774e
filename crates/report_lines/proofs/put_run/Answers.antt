-- `report_lines::put_run` meets its contract. Assumes nothing.
use Rattle.printed.specs.Lines.{run_line}
use Rattle.report_lines.proofs.put_run.Goals as goal

pub put_words-requires : goal.put_words-requires
unfolding run_line
put_words-requires c = c.requires

pub returns : goal.returns
unfolding run_line
returns c = c.put_words.ensures
