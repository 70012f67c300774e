-- `writing::put_number` meets its contract. Assumes nothing.
use mathlib.Core.Path.{ap}
use native.Mathlib.Omega.{arith}
use lib.ListN.{length}
use Rattle.text.specs.Decimal.{decimal}
use Rattle.text.proofs.Over.{put_then}
use Rattle.text.proofs.Spaced.{spaced_one}
use Rattle.writing.proofs.put_number.Goals as goal

pub put_byte-next-requires : goal.put_byte-next-requires
put_byte-next-requires c = omega (arith, ap length (spaced_one decimal c.args.n))

pub put_decimal-requires : goal.put_decimal-requires
put_decimal-requires c = omega (arith, ap length (spaced_one decimal c.args.n), c.put_byte-next.ensures.next)

pub returns : goal.returns
returns c =
    let one = spaced_one decimal c.args.n in
    rw one (put_then (rw one at c.requires) c.put_byte-next.ensures c.put_decimal.ensures)
