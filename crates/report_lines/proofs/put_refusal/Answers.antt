-- `report_lines::put_refusal` meets its contract. Assumes nothing.
use Rattle.printed.specs.Lines.{refusal_line}
use Rattle.report_lines.proofs.put_refusal.Goals as goal

pub put_words-requires : goal.put_words-requires
unfolding refusal_line
put_words-requires c = c.requires

pub returns : goal.returns
unfolding refusal_line
returns c = c.put_words.ensures
