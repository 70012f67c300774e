-- Where reading ends, `ended-whole` judges its bytes; where it goes on, more bytes have come, and no more than there was room for.
use Rattle.std.proofs.Common.{rules, sym}
use Rattle.reading.proofs.Readings.{ended-whole, more_come}
use Rattle.input.proofs.read_to_end.Goals as goal

pub returns-in-Ended : goal.returns-in-Ended
returns-in-Ended g c = ended-whole _ _ _ _ _ (sym c.in-Ended.ensures) (search rules)

pub loop-done-smaller : goal.loop-done-smaller
loop-done-smaller g c =
    let m = more_come _ _ _ _ (sym c.in-More.ensures) (search rules) in
    search rules

pub loop-done-preserved : goal.loop-done-preserved
loop-done-preserved g c =
    let m = more_come _ _ _ _ (sym c.in-More.ensures) (search rules) in
    (search rules, search rules)
