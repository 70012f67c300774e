-- `rows::row` meets its contract. The loop's invariant: the first l entries of x are those of row k.
-- Assumes nothing.
use mathlib.Core.Path.{refl}
use native.Mathlib.Omega.{arith}
use Rattle.rows.proofs.Writing.{put-start, put_step}
use Rattle.rows.proofs.row.Goals as goal

pub loop-l-preserved : goal.loop-l-preserved
loop-l-preserved c =
    let lanes = c.requires.0 in
    put_step c.loop-l.invariant _ (omega arith) (λ i h e. omega arith) refl

pub returns : goal.returns
returns c = λ i h. c.loop-l.invariant.new i (omega arith)

pub loop-l-init : goal.loop-l-init
loop-l-init c = put-start _ _ _
