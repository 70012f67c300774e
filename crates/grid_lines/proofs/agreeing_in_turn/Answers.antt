-- `grid_lines::agreeing_in_turn` meets its contract: a saved row shows the outputs of file 1, and in a matching lane those of file 2 too.
-- Assumes nothing.
use Rattle.std.proofs.Common.{◌≡◌, ℕ, ◌-◌, ◌*◌, ◌%◌, ◌^◌, ◌≤◌, List, length, get_or, sym, ap, ◌∙◌, mul-le-mul_left, arith}
use Rattle.batches.specs.Prepared.{max_axis}
use Rattle.batches.proofs.OnGrid.{same-grid}
use Rattle.batches.proofs.Tests.{room₁, room₂}
use Rattle.evaluate.specs.Run.{word_output}
use Rattle.fields.specs.File.{sizes_of}
use Rattle.grid.specs.Grid.{axes_of}
use Rattle.lanes.specs.Lanes.{Shown}
use Rattle.plan.proofs.Axes.{file-axis-most}
use Rattle.plan.proofs.Numbers as plan
use Rattle.rows.specs.Rows.{lane}
use Rattle.sizes.specs.declared.Sizes.{Sizes}
use Rattle.vectors.specs.Vectors.{low_words}
use Rattle.grid_lines.specs.Lines.{last_axis}
use Rattle.grid_lines.proofs.Lines.{axis-at, low-at}
use Rattle.grid_lines.proofs.agreeing_in_turn.Goals.{Start}
use Rattle.grid_lines.proofs.agreeing_in_turn.Goals as goal

-- two files of the same sizes whose outputs a lane shows have the same output
both-shown :
    (w : ℕ) (s₁ s₂ x saved : List ℕ) (l t : ℕ) → sizes_of s₁ ≡ sizes_of s₂ → Shown w s₁ x saved l t → Shown w s₂ x saved l t → word_output s₁ x ≡ word_output s₂ x
both-shown w s₁ s₂ x saved l t same h₁ h₂ = sym h₁ ∙ ap (λ (z : Sizes). lane w saved t l % 2 ^ z.m) same ∙ h₂

axis : (c : Start) → last_axis c.args.plan ≡ get_or (axes_of (sizes_of c.args.file1.now)) (c.args.plan.d - 1) 0
axis c =
    let k = c.requires.prepared.planned in
    axis-at k (c.args.plan.d - 1) (omega (arith, (plan.some_inputs k).0))

saved-room : (c : Start) → c.args.shape.w * last_axis c.args.plan ≤ length c.args.other.now
saved-room c =
    let k = c.requires.prepared in
    let short : last_axis c.args.plan ≤ max_axis = omega (arith, axis c, file-axis-most c.args.file1.now k.planned.files.sound₁ (c.args.plan.d - 1)) in
    omega (arith, mul-le-mul_left c.args.shape.w short, k.saved c.requires.turn_value)

pub along_lines-along1-requires : goal.along_lines-along1-requires
along_lines-along1-requires c = plan.some_inputs c.requires.prepared.planned

pub along_lines-along2-requires : goal.along_lines-along2-requires
along_lines-along2-requires c = plan.some_inputs c.requires.prepared.planned

pub save_outputs-requires : goal.save_outputs-requires
save_outputs-requires c =
    rw c.along_lines-along1.ensures
    (record {
      room = room₁ c.requires.prepared _ c.requires.fronts.room;
      along_line = record {
        input_count = plan.inputs c.requires.prepared.planned;
        axis = axis (goal.at.save_outputs-requires c).Start;
        lowest = low-at c.requires.prepared.planned (c.args.plan.d - 1);
        listed = c.requires.dependents.listed₁;
        rest = c.requires.dependents.rest₁;
        room = c.requires.fronts.room;
        on_grid = c.requires.fronts.on_grid;
      };
      u_in_bounds = saved-room (goal.at.save_outputs-requires c).Start;
    })

pub matching_lanes-requires : goal.matching_lanes-requires
matching_lanes-requires c =
    let k = c.requires.prepared in
    let saved-grid = rw c.along_lines-along1.ensures at c.save_outputs.ensures.on_grid in
    rw c.along_lines-along2.ensures
    (record {
      room = room₂ k _ _ (omega (arith, c.requires.fronts.room, c.save_outputs.auto.inputs)) (omega (arith, k.shared c.requires.turn_value, c.save_outputs.auto.rows));
      along_line = record {
        input_count = plan.inputs k.planned ∙ ap (λ (z : Sizes). z.d) k.planned.files.same;
        axis = axis (goal.at.matching_lanes-requires c).Start ∙ ap (λ (z : Sizes). get_or (axes_of z) (c.args.plan.d - 1) 0) k.planned.files.same;
        lowest =
            low-at k.planned (c.args.plan.d - 1)
            ∙ ap (λ (z : Sizes). get_or (low_words z) (c.args.plan.d - 1) 0) k.planned.files.same;
        listed = c.requires.dependents.listed₂;
        rest = c.requires.dependents.rest₂;
        room = omega (arith, c.requires.fronts.room, c.save_outputs.auto.inputs);
        on_grid = same-grid _ _ _ c.save_outputs.new.inputs k.planned.files.same saved-grid;
      };
      u_in_bounds = omega (arith, saved-room (goal.at.matching_lanes-requires c).Start, c.save_outputs.auto.saved);
    })

pub shape_of-rows : goal.shape_of-rows
shape_of-rows c = c.matching_lanes.auto.rows ∙ c.save_outputs.auto.rows

pub shape_of-other : goal.shape_of-other
shape_of-other c = c.save_outputs.auto.saved

pub shape_of-inputs : goal.shape_of-inputs
shape_of-inputs c = c.matching_lanes.auto.inputs ∙ c.save_outputs.auto.inputs

pub returns : goal.returns
returns c =
    let saved = rw c.along_lines-along1.ensures at c.save_outputs.ensures in
    let matching = rw c.along_lines-along2.ensures at c.matching_lanes.ensures in
    record {
      high = matching.high;
      agree =
          λ l t x h below f last. both-shown _ _ _ x c.save_outputs.new.saved l t c.requires.prepared.planned.files.same
          (saved.outputs l t x (omega (arith, h, matching.high)) below f last)
          (matching.shown l t x h below (λ i g. saved.fronts i l g (omega (arith, h, matching.high)) ∙ f i g) last);
    }
