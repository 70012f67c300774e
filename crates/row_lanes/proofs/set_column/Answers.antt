-- `row_lanes::set_column` meets its contract. The loop's invariant: lane l of the first i rows holds the first i entries of v, the other entries
-- are as at entry.
-- Assumes nothing.
use mathlib.Core.Path.{refl, sym}
use Prim.Native.Nat.{◌+◌, ◌*◌, ◌≤◌}
use native.Mathlib.Omega.{arith}
use borrow.Author.Rules.{rules}
use Rattle.rows.proofs.Writing.{before-row, same-lane, put-start, put_step}
use Rattle.sizes.specs.Sizes.{max_inputs}
use Rattle.row_lanes.proofs.set_column.Goals.{In-loop-i}
use Rattle.row_lanes.proofs.set_column.Goals as goal

-- row i lies before the end of the inputs' rows
input-row : (c : In-loop-i) → let w = c.args.w in w * c.loop-i.i + w ≤ w * max_inputs
input-row c = before-row c.args.w c.loop-i.i max_inputs (omega arith)

pub loop-i-preserved : goal.loop-i-preserved
loop-i-preserved c =
    let h = input-row c in
    let apart = before-row c.args.w in
    put_step c.loop-i.invariant _ (omega arith) (λ j h e. omega (arith, apart j c.loop-i.i h)) refl

pub returns : goal.returns
returns c =
    let p = c.loop-i.invariant in
    record {
      set = λ j h. p.new j (omega arith);
      others = λ j k h d. p.old _ (λ i t e. d (sym (same-lane _ j k i _ h c.requires.0 e)));
    }

pub loop-i-init : goal.loop-i-init
loop-i-init c = put-start _ _ _

pub overflow_mul-rows : goal.overflow_mul-rows
overflow_mul-rows c = let h = input-row c in search rules

pub overflow_add-rows : goal.overflow_add-rows
overflow_add-rows c = let h = input-row c in search rules

pub offset_bounds-rows-w : goal.offset_bounds-rows-w
offset_bounds-rows-w c = let h = input-row c in search rules

pub bounds-rows-w : goal.bounds-rows-w
bounds-rows-w c = let h = input-row c in search rules
