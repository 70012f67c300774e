-- `row_products::multiply_rows` meets its contract. The loop's invariant: the first l lanes of row k are the products, the other entries as at
-- entry: so the operands, in earlier rows, are read as they were.
-- Assumes nothing.
use mathlib.Core.Path.{◌∙◌, ap₂}
use Prim.Native.Nat.{ℕ, ◌*◌, ◌%◌, ◌^◌}
use borrow.Author.Rules.{rules}
use Rattle.rows.proofs.Writing.{left-row, right-row, row-start, row_step, row_end, row_kept}
use Rattle.row_products.proofs.multiply_rows.Goals as goal

pub loop-l-preserved : goal.loop-l-preserved
loop-l-preserved c =
    let r = c.loop-l.invariant in
    let l = c.loop-l.l in
    let t = c.loop-l-test.true in
    let o = c.requires in
    row_step r o.room t _ (c.wrapping_mul.ensures ∙ ap₂ (λ (x y : ℕ). (x * y) % 2 ^ 64) (row_kept r _ l o.left t) (row_kept r _ l o.right t))

pub loop-l-init : goal.loop-l-init
loop-l-init c = row-start _ _ _ _

pub overflow_mul-x : goal.overflow_mul-x
overflow_mul-x c = let h = left-row c.requires in search rules

pub overflow_add-x : goal.overflow_add-x
overflow_add-x c = let h = left-row c.requires in search rules

pub offset_bounds-rows-w : goal.offset_bounds-rows-w
offset_bounds-rows-w c = let h = left-row c.requires in search rules

pub bounds-rows-w : goal.bounds-rows-w
bounds-rows-w c = let h = left-row c.requires in search rules

pub overflow_mul-y : goal.overflow_mul-y
overflow_mul-y c = let h = right-row c.requires in search rules

pub overflow_add-y : goal.overflow_add-y
overflow_add-y c = let h = right-row c.requires in search rules

pub offset_bounds-rows-w-in-loop-l : goal.offset_bounds-rows-w-in-loop-l
offset_bounds-rows-w-in-loop-l c = let h = right-row c.requires in search rules

pub bounds-rows-w-in-loop-l : goal.bounds-rows-w-in-loop-l
bounds-rows-w-in-loop-l c = let h = right-row c.requires in search rules

pub returns : goal.returns
returns c = row_end _ c.loop-l.invariant c.loop-l-test.false
