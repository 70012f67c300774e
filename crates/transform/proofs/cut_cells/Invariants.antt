-- `transform::cut_cells` meets its contract. The loop has the cells before this one cut and the others as they were.
-- Assumes nothing.
use Rattle.std.proofs.Common.{◌≡◌, ℕ, ◌++◌, ◌%◌, ◌^◌, map, take, drop}
use Rattle.transform.proofs.cut_cells.Given as goal

abbrev pub invariant-loop-x : goal.invariant-loop-x
invariant-loop-x l =
    l.cells
    ≡ map (λ (x : ℕ). x % 2 ^ l.m) (take l.x-index l.initial.cells)
    ++ drop l.x-index l.initial.cells
