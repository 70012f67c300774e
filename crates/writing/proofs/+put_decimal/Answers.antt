-- `writing::put_decimal` meets its contract. Below 10 the one digit is written; from 10 on the call writes the digits of the tenth, and the last
-- digit comes after them.
-- Assumes nothing.
use Rattle.std.proofs.Common.{length, ap, arith}
use Rattle.text.proofs.Decimal.{tens, decimal-last, decimal_step, length-decimal}
use Rattle.text.proofs.Over.{put_then}
use Rattle.writing.proofs.+put_decimal.Goals as goal

pub put_byte-requires : goal.put_byte-requires
put_byte-requires t c = omega (arith, ap length (decimal-last c.args.n (omega arith)), c.requires)

pub returns-then-n-lt10 : goal.returns-then-n-lt10
returns-then-n-lt10 t c = rw (decimal-last c.args.n (omega arith)) c.put_byte.ensures

pub put_decimal-last-requires : goal.put_decimal-last-requires
put_decimal-last-requires t c =
    (omega (arith, tens c.args.n, c.decreases), omega (arith, length-decimal c.args.n (omega arith), c.requires))

pub put_byte-requires-2 : goal.put_byte-requires-2
put_byte-requires-2 t c =
    omega (arith, length-decimal c.args.n (omega arith), c.requires, c.put_decimal-last.ensures.next)

pub returns : goal.returns
returns t c =
    let more = decimal_step c.args.n (omega arith) in
    rw more (put_then (rw more at c.requires) c.put_decimal-last.ensures c.put_byte-2.ensures)
