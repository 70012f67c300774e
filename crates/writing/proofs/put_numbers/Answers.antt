-- `writing::put_numbers` meets its contract. The loop's invariant: the first i numbers are written, up to the next index.
-- Assumes nothing.
use mathlib.Core.Path.{refl}
use native.Mathlib.Omega.{arith}
use borrow.Author.Rules.{rules}
use lib.Seq.{take_all}
use Rattle.text.specs.Decimal.{decimal}
use Rattle.text.specs.Text.{spaced_by}
use Rattle.text.proofs.Over.{room-second, put-start, put_then}
use Rattle.text.proofs.Spaced.{spaced-step, spaced-room}
use Rattle.writing.proofs.put_numbers.Goals as goal

pub loop-n-init : goal.loop-n-init
unfolding spaced_by
loop-n-init c = (omega arith, refl, put-start _ _)

pub put_number-next-requires : goal.put_number-next-requires
put_number-next-requires c = room-second (spaced-room decimal c.args.ns.now c.loop-n.n-index 0 c.loop-n-test.true c.requires) c.loop-n.invariant.2

pub loop-n-preserved : goal.loop-n-preserved
loop-n-preserved c =
    let i = c.loop-n.n-index in
    let inv = c.loop-n.invariant in (
      omega arith,
      search rules,
      rw (spaced-step decimal c.args.ns.now i 0 (omega arith))
          (put_then (spaced-room decimal c.args.ns.now i 0 (omega arith) c.requires) inv.2 c.put_number-next.ensures),
    )

pub returns : goal.returns
returns c = rw (take_all c.loop-n.n-index _ c.loop-n-test.false) at c.loop-n.invariant.2
