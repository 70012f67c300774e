-- `file_tables::make_table` meets its contract: the tests that led to each answer are those of its case; a refused call ends before either slice is
-- touched, and an accepted one leaves what `fill_table` does. Assumes nothing.
use mathlib.Core.List.{List}
use mathlib.Core.Path.{◌≡◌, sym, ◌∙◌, ap}
use Prim.Native.Nat.{ℕ, ◌≤◌}
use native.Mathlib.Omega.{arith}
use borrow.Author.Rules.{rules}
use lib.ListN.{length}
use Rattle.fields.proofs.Heads.{head-short}
use Rattle.fields.specs.File.{sizes_of, step_count}
use Rattle.file.specs.Accepted.{Accepted}
use Rattle.file.specs.Check.{file_number}
use Rattle.file.proofs.Accepted as file
use Rattle.file.proofs.Number.{refusal-number}
use Rattle.file.proofs.Sound.{file-sound}
use Rattle.grid.specs.Grid.{grid_size}
use Rattle.grid.proofs.Grids.{grid-size}
use Rattle.std.specs.Prelude.{Err}
use Rattle.sizes.specs.declared.Refusal.{Refusal}
use Rattle.sizes.proofs.Answered.{ok-answered, err-answered, ok-number, err-number, err-refusal}
use Rattle.sizes.proofs.Judged.{number_of}
use Rattle.file_tables.specs.FileTables.{table_refusal, TableMade}
use Rattle.file_tables.proofs.Answers.{table-file, table_12, table_13, table_0, made-refused, table-accepted, scratch-accepted}
use Rattle.file_tables.proofs.make_table.Goals.{After-grid_of-g, In_ok-check, Else-scratch-n}
use Rattle.file_tables.proofs.make_table.Goals as goal

-- a refused call leaves both slices
refused : (s w t : List ℕ) (q : Refusal) → q ≡ table_refusal s (length w) (length t) → ¬ (q.number ≡ 0) → TableMade s w t (Err q) w t
refused s w t q e n =
    let left = made-refused s w t (λ z. n (number_of e ∙ z)) in
    record { answer = err-answered _ _ q e n; table = left.0; scratch = left.1 }

sound : (c : In_ok-check) → file_number c.args.file.now ≡ 0
sound c = sym (refusal-number _ 1) ∙ ok-number _ _ _ c.in_ok-check.ensures

file_rules : (c : In_ok-check) → Accepted c.args.file.now
file_rules c = file.accepted _ (sound c)

room : (c : Else-scratch-n) → let a = c.args in step_count a.file.now ≤ length a.scratch.now
room c = omega (arith, c.if-scratch-n.false, c.step_count-n.ensures)

cells : (c : After-grid_of-g) → c.grid_of-g.result.size ≡ grid_size (sizes_of c.args.file.now)
cells c = grid-size _ _ c.grid_of-g.ensures ∙ ap grid_size c.read_sizes-z.ensures

pub returns-in_err-check : goal.returns-in_err-check
returns-in_err-check c =
    let r : c.from_residual.result ≡ Err c.in_err-check.field-0.0 = search rules in
    let n = err-number _ _ _ c.in_err-check.ensures in
    let e = err-refusal _ _ _ c.in_err-check.ensures in
    rw r (refused _ _ _ _ (e ∙ sym (table-file _ _ _ (λ z. n (refusal-number _ 1 ∙ z)))) (λ z. n (sym (number_of e) ∙ z)))

pub step_count-n-requires : goal.step_count-n-requires
step_count-n-requires c = head-short _ (file_rules c).long

pub returns-then-scratch-n : goal.returns-then-scratch-n
returns-then-scratch-n c =
    let at = goal.at.returns-then-scratch-n c in
    refused _ _ _ _
    (c.refused_by.ensures ∙ sym (table_12 _ _ _ (sound at.In_ok-check) (omega (arith, c.if-scratch-n.true, c.step_count-n.ensures))))
    (λ e. omega (arith, e, number_of c.refused_by.ensures))

pub read_sizes-z-requires : goal.read_sizes-z-requires
read_sizes-z-requires c = (file_rules (goal.at.read_sizes-z-requires c).In_ok-check).long

pub grid_of-g-requires : goal.grid_of-g-requires
grid_of-g-requires c = rw c.read_sizes-z.ensures (file-sound _ (file_rules (goal.at.grid_of-g-requires c).In_ok-check))

pub returns-then-table-g : goal.returns-then-table-g
returns-then-table-g c =
    let at = goal.at.returns-then-table-g c in
    refused _ _ _ _
    (c.refused_by-then-table-g.ensures ∙ sym (table_13 _ _ _ (sound at.In_ok-check) (room at.Else-scratch-n) (omega (arith, c.if-table-g.true, cells at.After-grid_of-g))))
    (λ e. omega (arith, e, number_of c.refused_by-then-table-g.ensures))

pub fill_table-requires : goal.fill_table-requires
fill_table-requires c =
    record {
      sound = file_rules (goal.at.fill_table-requires c).In_ok-check;
      steps = c.step_count-n.ensures.0;
      sizes = c.read_sizes-z.ensures;
      grid = c.grid_of-g.ensures;
      room = c.if-scratch-n.false;
      table_room = omega arith;
    }

pub returns : goal.returns
returns c =
    let a = c.args in
    let at = goal.at.returns c in
    let n = number_of (table_0 a.file.now (length a.scratch.now) (length a.table.now) (sound at.In_ok-check) (room at.Else-scratch-n) (omega (arith, cells at.After-grid_of-g))) in
    record {
      answer = ok-answered _ _ n;
      table = c.fill_table.ensures.table ∙ sym (table-accepted a.file.now (length a.scratch.now) a.table.now n);
      scratch = c.fill_table.ensures.scratch ∙ sym (scratch-accepted a.file.now a.scratch.now a.table.now n);
    }
