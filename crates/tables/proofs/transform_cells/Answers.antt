-- `tables::transform_cells` meets its contract: a refused call ends before the slice is touched, and of an accepted one the first G entries are
-- copied and become their sums or their difference table in place. The grid is found once, for 13 and for the passes.
use mathlib.Core.Bool.{Bool, true, false}
use mathlib.Core.List.{List, ◌++◌}
use mathlib.Core.Path.{◌≡◌, sym, ◌∙◌, ap, ap₂}
use native.Mathlib.Omega.{arith}
use borrow.Author.Rules.{rules}
use lib.ListN.{length, take, drop, length-append, length-drop}
use lib.Seq.{length-take-le}
use Prim.Native.Nat.{ℕ, ◌≤◌, ◌^◌}
use Rattle.std.specs.Prelude.{Ok, Err}
use Rattle.cells.specs.Cells.{bad_cells}
use Rattle.cells.specs.Taken.{CellsTaken}
use Rattle.cells.proofs.Answers.{fitting, cells_unruled, cells_13}
use Rattle.grid.specs.Grid.{grid_size}
use Rattle.grid.proofs.Grids.{grid-size}
use Rattle.sizes.specs.Sizes.{max_inputs, Ruled}
use Rattle.sizes.proofs.Answered.{ok-number, err-number, err-refusal}
use Rattle.sizes.proofs.Judged.{number_of, sizes-ruled}
use Rattle.sizes.proofs.Ruled.{ruled-sound}
use Rattle.slices.specs.Slices.{overwritten}
use Rattle.transform.specs.Grid.{Lent}
use Rattle.transform.specs.Transform.{transform_of}
use Rattle.tables.specs.Tables.{CellsCall}
use Rattle.tables.proofs.Answers.{refused, done}
use Rattle.tables.proofs.Fronts.{lent, in_place}
use Rattle.tables.proofs.transform_cells.Goals.{In_ok-sizes_refusal, After-bad_cells, Else-bad_cells, After-copy_from_slice}
use Rattle.tables.proofs.transform_cells.Goals as goal

pub returns-in_err-sizes_refusal : goal.returns-in_err-sizes_refusal
returns-in_err-sizes_refusal c =
    let a = c.args in
    let r : c.from_residual.result ≡ Err c.in_err-sizes_refusal.field-0.0 = search rules in
    let n = err-number _ _ _ c.in_err-sizes_refusal.ensures in
    let e = err-refusal _ _ _ c.in_err-sizes_refusal.ensures in
    rw r (refused a.z a.cells.now a.sum a.res.now _ (e ∙ sym (cells_unruled a.z a.cells.now (length a.res.now) n)) (λ z. n (sym (number_of e) ∙ z)))

file_rules : (c : In_ok-sizes_refusal) → Ruled c.args.z
file_rules c = sizes-ruled _ (ok-number _ _ _ c.in_ok-sizes_refusal.ensures)

tested :
    (c : After-bad_cells) →
    let a = c.args in
    c.bad_cells.result ≡ bad_cells a.z.m (grid_size a.z) a.cells.now (length a.res.now)
tested c =
    let a = c.args in
    c.bad_cells.ensures
    ∙ ap₂ (λ m n. bad_cells m n a.cells.now (length a.res.now)) c.from-m.ensures (grid-size _ _ c.grid_of-grid.ensures)

taken : (c : Else-bad_cells) → let a = c.args in CellsTaken a.z a.cells.now (length a.res.now)
taken c =
    let at = goal.at.slice_bounds-copy_from_slice-end c in
    record {
      sizes = file_rules at.In_ok-sizes_refusal;
      fits = fitting _ _ _ (sym (tested at.After-bad_cells) ∙ c.if-bad_cells.false);
    }

-- the grid has room in both slices
room :
    (c : Else-bad_cells) →
    let g = c.grid_of-grid.result in
    let a = c.args in
    (g.size ≤ length a.cells.now) × (g.size ≤ length a.res.now)
room c =
    let f = (taken c).fits in
    let e = grid-size _ _ c.grid_of-grid.ensures in
    (omega (arith, e, f.read), omega (arith, e, f.written))

widths : (c : After-copy_from_slice) → length c.args.z.widths ≡ max_inputs
widths c = search rules

pub grid_of-grid-requires : goal.grid_of-grid-requires
grid_of-grid-requires c = ruled-sound _ (file_rules c)

pub returns-then-bad_cells : goal.returns-then-bad_cells
returns-then-bad_cells c =
    let a = c.args in
    let at = goal.at.returns-then-bad_cells c in
    let e = c.refused_by.ensures ∙ sym (cells_13 a.z a.cells.now (length a.res.now) (file_rules at.In_ok-sizes_refusal) (sym (tested at.After-bad_cells) ∙ c.if-bad_cells.true)) in
    refused a.z a.cells.now a.sum a.res.now _ e (λ z. omega (arith, number_of c.refused_by.ensures, z))

pub slice_bounds-copy_from_slice-end : goal.slice_bounds-copy_from_slice-end
slice_bounds-copy_from_slice-end c = (room c).1

pub slice_bounds-copy_from_slice-end-2 : goal.slice_bounds-copy_from_slice-end-2
slice_bounds-copy_from_slice-end-2 c = sym (length-take-le _ _ (room (goal.at.slice_bounds-copy_from_slice-end-2 c).Else-bad_cells).1)

pub slice_bounds-copy_from_slice-end-3 : goal.slice_bounds-copy_from_slice-end-3
slice_bounds-copy_from_slice-end-3 c = sym (length-take-le _ _ (room (goal.at.slice_bounds-copy_from_slice-end-3 c).Else-bad_cells).0)

pub copy_from_slice-requires : goal.copy_from_slice-requires
copy_from_slice-requires c =
    let r = room (goal.at.copy_from_slice-requires c).Else-bad_cells in
    length-take-le _ _ r.1 ∙ sym (length-take-le _ _ r.0)

-- the cells, copied over the front of the slice
copied :
    (c : After-copy_from_slice) →
    let a = c.args in
    let g = c.grid_of-grid.result in
    c.copy_from_slice.new.self ++ drop g.size a.res.now ≡ overwritten g.size a.cells.now a.res.now
copied c = let a = c.args in ap (λ l. l ++ drop c.grid_of-grid.result.size a.res.now) c.copy_from_slice.ensures.after

lent_front :
    (c : After-copy_from_slice) →
    let a = c.args in
    CellsTaken a.z a.cells.now (length a.res.now) →
    let g = c.grid_of-grid.result in
    Lent g.axes a.z.d g.size a.z.m (length (c.copy_from_slice.new.self ++ drop g.size a.res.now))
lent_front c t =
    let a = c.args in
    let g = c.grid_of-grid.result in
    let e = grid-size _ _ c.grid_of-grid.ensures in
    let r : g.size ≤ length a.res.now = omega (arith, e, t.fits.written) in
    lent a.z (widths c) (ruled-sound _ t.sizes) g c.grid_of-grid.ensures _
    (omega (arith, e, r, length-append c.copy_from_slice.new.self (drop g.size a.res.now), length-drop g.size a.res.now, c.copy_from_slice.ensures.len, length-take-le _ _ r))

transformed :
    (c : After-copy_from_slice) (sum : Bool) (after : List ℕ) →
    let a = c.args in
    CellsTaken a.z a.cells.now (length a.res.now) →
    let g = c.grid_of-grid.result in
    let front = c.copy_from_slice.new.self ++ drop g.size a.res.now in
    after ≡ transform_of sum (2 ^ a.z.m) (take a.z.d g.axes) (take g.size front) ++ drop g.size front →
    CellsCall a.z a.cells.now sum a.res.now (Ok tt) after
transformed c sum after t o =
    let a = c.args in
    done a.z a.cells.now sum a.res.now after t
    (in_place a.z (widths c) (ruled-sound _ t.sizes) c.grid_of-grid.result c.grid_of-grid.ensures sum a.cells.now a.res.now _ after
    t.fits.read (copied c) o)

pub transform_front-requires : goal.transform_front-requires
transform_front-requires c =
    let at = goal.at.transform_front-requires c in
    rw (c.from-d.ensures, c.from-m.ensures) (lent_front at.After-copy_from_slice (taken at.Else-bad_cells))

pub transform_front-requires-else-sum : goal.transform_front-requires-else-sum
transform_front-requires-else-sum c =
    let at = goal.at.transform_front-requires-else-sum c in
    rw (c.from-d.ensures, c.from-m.ensures) (lent_front at.After-copy_from_slice (taken at.Else-bad_cells))

pub returns-then-sum : goal.returns-then-sum
returns-then-sum c =
    let at = goal.at.returns-then-sum c in
    rw c.if-sum.true (transformed at.After-copy_from_slice true _ (taken at.Else-bad_cells) (rw (c.from-d.ensures, c.from-m.ensures) at c.transform_front.ensures))

pub returns-else-sum : goal.returns-else-sum
returns-else-sum c =
    let at = goal.at.returns-else-sum c in
    rw c.if-sum.false (transformed at.After-copy_from_slice false _ (taken at.Else-bad_cells) (rw (c.from-d.ensures, c.from-m.ensures) at c.transform_front-else-sum.ensures))
