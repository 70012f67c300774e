-- `batches::first_in_batch` meets its contract: the lanes hold the vectors, the rows the values there, and the lanes are searched in order. In turn,
-- the copied row shows the outputs of file 1.
-- Assumes nothing.
use mathlib.Core.List.{List}
use mathlib.Core.Path.{◌∙◌, ap}
use Prim.Native.Nat.{ℕ, ◌*◌, ◌-◌, ◌%◌, ◌^◌, ◌≤◌, ◌<◌}
use native.Mathlib.Omega.{arith}
use lib.ListN.{length}
use Rattle.fields.specs.File.{sizes_of}
use Rattle.lanes.specs.Lanes.{Reads, Shown, LanesOnGrid}
use Rattle.lanes.proofs.Stepped.{width-most}
use Rattle.plan.proofs.Numbers as plan
use Rattle.batches.proofs.OnGrid.{same-grid, lanes_on_grid}
use Rattle.batches.proofs.Tests.{last₁, last₂, inputs-room, room₁, room₂, shown₁, shown₂, batch_first}
use Rattle.batches.proofs.first_in_batch.Goals.{After-copy_row, After-run_all, After-set_lanes}
use Rattle.batches.proofs.first_in_batch.Goals as goal

-- the lanes are on the grid once they are set, and have rows for the inputs
on-grid : (c : After-set_lanes) → LanesOnGrid c.args.shape.w c.args.file1.now c.set_lanes.new.inputs
on-grid c = lanes_on_grid c.requires.prepared.planned _ _ _ _ c.requires.live.inside c.set_lanes.ensures c.requires.dead_on_grid

enough : (c : After-set_lanes) → c.args.shape.w * c.args.plan.d ≤ length c.set_lanes.new.inputs
enough c = inputs-room c.requires.prepared c.set_lanes.new.inputs (omega (arith, c.requires.live.room, c.set_lanes.auto.inputs))

-- the output row of file 1 shows the outputs, and so does its copy
run-shown :
    (c : After-run_all) → let s = c.args.file1.now in let w = c.args.shape.w in
    (l : ℕ) (x : List ℕ) → l < w → Reads w s c.set_lanes.new.inputs l x → Shown w s x c.run_all.new.rows l (c.args.plan.n1 - 1)
run-shown c l x h reads = shown₁ c.requires.prepared c.run_all.new.rows x l (c.run_all.ensures l x h reads)

copy-shown :
    (c : After-copy_row) → let s = c.args.file1.now in let w = c.args.shape.w in
    (l : ℕ) (x : List ℕ) → l < w → Reads w s c.set_lanes.new.inputs l x → Shown w s x c.copy_row.new.rows l 0
copy-shown c l x h reads =
    let m = (sizes_of c.args.file1.now).m in
    ap (λ v. v % 2 ^ m) (c.copy_row.ensures.row l h) ∙ shown₁ c.requires.prepared c.run_all.new.rows x l (c.run_all.ensures l x h reads)

pub set_lanes-requires : goal.set_lanes-requires
set_lanes-requires c = record { d_le_max_inputs = (plan.some_inputs c.requires.prepared.planned).1; live = c.requires.live }

pub run_all-requires : goal.run_all-requires
run_all-requires c = record { room = room₁ c.requires.prepared _ (enough (goal.at.run_all-requires c).After-set_lanes); lanes_on_grid = on-grid (goal.at.run_all-requires c).After-set_lanes }

pub overflow_sub-plan : goal.overflow_sub-plan
overflow_sub-plan c = let h = plan.some_steps c.requires.prepared.planned in omega (arith, h.0, h.1)

pub overflow_sub-plan-then-shape : goal.overflow_sub-plan-then-shape
overflow_sub-plan-then-shape c = let h = plan.some_steps c.requires.prepared.planned in omega (arith, h.0, h.1)

pub overflow_sub-plan-2 : goal.overflow_sub-plan-2
overflow_sub-plan-2 c = let h = plan.some_steps c.requires.prepared.planned in omega (arith, h.0, h.1)

pub overflow_sub-plan-3 : goal.overflow_sub-plan-3
overflow_sub-plan-3 c = let h = plan.some_steps c.requires.prepared.planned in omega (arith, h.0, h.1)

pub copy_row-requires : goal.copy_row-requires
copy_row-requires c =
    let k = c.requires.prepared in
    record { w_le_max_lanes = (width-most k.width, omega (arith, last₁ k, k.room₁, c.run_all.auto.rows)); has_row = omega (arith, k.saved c.if-shape.true) }

pub run_all-requires-then-shape : goal.run_all-requires-then-shape
run_all-requires-then-shape c = let k = c.requires.prepared in record { room = room₂ k _ _ (enough (goal.at.run_all-requires-then-shape c).After-set_lanes) (omega (arith, k.shared c.if-shape.true, c.run_all.auto.rows)); lanes_on_grid = same-grid _ _ _ c.set_lanes.new.inputs k.planned.files.same (on-grid (goal.at.run_all-requires-then-shape c).After-set_lanes) }

pub first_unequal-requires : goal.first_unequal-requires
first_unequal-requires c =
    let k = c.requires.prepared in
    let t = c.if-shape.true in (
      omega (arith, k.saved t, c.copy_row.auto.rows),
      omega (arith, last₂ k, k.shared t, c.run_all.auto.rows, c.run_all-then-shape.auto.rows),
      c.requires.live.few,
    )

pub returns-then-shape : goal.returns-then-shape
returns-then-shape c =
    record {
      found =
          batch_first c.requires.prepared c.set_lanes.new.inputs _ _ 0 _ _ _ _ _ (plan.output c.requires.prepared.planned) c.requires.live.few c.set_lanes.ensures.set (copy-shown (goal.at.returns-then-shape c).After-copy_row)
          (λ l x h reads. shown₂ c.requires.prepared c.run_all-then-shape.new.rows x l (c.run_all-then-shape.ensures l x h reads)) c.first_unequal.ensures;
      on_grid = on-grid (goal.at.returns-then-shape c).After-set_lanes;
    }

pub run_all-requires-2 : goal.run_all-requires-2
run_all-requires-2 c = let k = c.requires.prepared in record { room = room₂ k _ _ (enough (goal.at.run_all-requires-2 c).After-set_lanes) (k.room₂ c.if-shape.false); lanes_on_grid = same-grid _ _ _ c.set_lanes.new.inputs k.planned.files.same (on-grid (goal.at.run_all-requires-2 c).After-set_lanes) }

pub first_unequal-requires-2 : goal.first_unequal-requires-2
first_unequal-requires-2 c =
    let k = c.requires.prepared in (
      omega (arith, last₁ k, k.room₁, c.run_all.auto.rows),
      omega (arith, last₂ k, k.room₂ c.if-shape.false, c.run_all-2.auto.rows),
      c.requires.live.few,
    )

pub returns : goal.returns
returns c =
    record {
      found =
          batch_first c.requires.prepared c.set_lanes.new.inputs _ _ _ _ _ _ _ _ (plan.output c.requires.prepared.planned) c.requires.live.few c.set_lanes.ensures.set (run-shown (goal.at.returns c).After-run_all)
          (λ l x h reads. shown₂ c.requires.prepared c.run_all-2.new.rows x l (c.run_all-2.ensures l x h reads)) c.first_unequal-2.ensures;
      on_grid = on-grid (goal.at.returns c).After-set_lanes;
    }
