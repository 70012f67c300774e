-- `batches::by_batches` meets its contract. The loop's invariant: the outputs agree at every place passed, and in
-- every lane the input rows hold a vector of the grid: zeros at first, then those of a batch.
-- Assumes nothing.
use mathlib.Core.Bool.{Bool}
use mathlib.Core.List.{List}
use mathlib.Core.Path.{◌≡◌, refl, sym, ◌∙◌}
use Prim.Native.Nat.{ℕ, ◌+◌, ◌-◌, ◌≤◌, ◌<◌}
use native.Mathlib.Decide.{dec_lt}
use native.Mathlib.Nat.{min-eq_left, min-eq_right}
use native.Mathlib.Omega.{arith}
use lib.ListN.{length}
use Rattle.std.specs.Prelude.{min}
use Rattle.lanes.specs.Lanes.{LanesOnGrid}
use Rattle.lanes.proofs.Stepped.{width-most, width-least}
use Rattle.plan.specs.Comparison.{outputs_differ}
use Rattle.plan.specs.declared.Plan.{Plan}
use Rattle.plan.proofs.Numbers as plan
use Rattle.ranges.specs.Search.{first}
use Rattle.ranges.proofs.Search.{first-most, first-before, first_end, first_past, first_part}
use Rattle.batches.specs.declared.Shape.{Shape}
use Rattle.batches.proofs.OnGrid.{lowest_on_grid}
use Rattle.batches.proofs.Tests.{prepared_kept}
use Rattle.batches.proofs.by_batches.Goals.{After-min-live}
use Rattle.batches.proofs.by_batches.Invariants.{Passed}
use Rattle.batches.proofs.by_batches.Goals as goal

-- the lanes of a batch that starts at p
record Batch (w p end live : ℕ) : Type 0 where
  some : 1 ≤ live
  room : live ≤ w
  part : p + live ≤ end
  all : live < w → end - p < w

module _
    {v : Shape} {s₁ s₂ : List ℕ} {g : Plan} {from end : ℕ} {rows₁₀ rows₂₀ rows₁ rows₂ inputs : List ℕ} {p : ℕ}
    (k : Passed v s₁ s₂ g from end rows₁₀ rows₂₀ rows₁ rows₂ inputs p)
  where
    abbrev f : ℕ → Bool
    f = outputs_differ s₁ s₂

    finished : end ≤ p → p ≡ first f from (end - from)
    finished h = sym (k.same ∙ first_end f p end h)

    module _ {live : ℕ} (l : ℕ) (b : Batch v.w p end live) (e : p + l ≡ first f p live) where
      short : p + l ≤ end
      short = omega (arith, e, first-most f p live, b.part)

      found : l < live → p + l ≡ first f from (end - from)
      found h = e ∙ sym (k.same ∙ first_part f p live end (omega (arith, e)) b.part)

      more :
          (rows₁' rows₂' inputs' : List ℕ) → length rows₁' ≡ length rows₁ → length rows₂' ≡ length rows₂ → length inputs' ≡ length inputs →
          LanesOnGrid v.w s₁ inputs' → live ≤ l → Passed v s₁ s₂ g from end rows₁₀ rows₂₀ rows₁' rows₂' inputs' (p + l)
      more rows₁' rows₂' inputs' e₁ e₂ e₃ on h =
          record {
            prepared = prepared_kept k.prepared rows₁' rows₂' e₁ e₂;
            long₁ = e₁ ∙ k.long₁;
            long₂ = e₂ ∙ k.long₂;
            lanes = e₃ ∙ k.lanes;
            on_grid = λ fewer. on;
            within = short;
            inside = k.inside;
            same = k.same ∙ first_past f p (p + l) end (omega arith) short (λ i low high. first-before f p live i low (omega (arith, e)));
          }

batch : (w p end live : ℕ) → 1 ≤ w → p < end → live ≡ min w (end - p) → Batch w p end live
batch w p end live some below e =
    elim (dec_lt w (end - p)) [
      | yes h ↦
          let q = e ∙ min-eq_left (omega arith) in
          record { some = omega (arith, q); room = omega (arith, q); part = omega (arith, q); all = λ few. absurd (omega (arith, q)) }
      | no h ↦
          let q = e ∙ min-eq_right (omega arith) in
          record { some = omega (arith, q); room = omega (arith, q); part = omega (arith, q); all = λ few. omega (arith, q) }
    ]

batch-here : (c : After-min-live) → Batch c.args.shape.w c.loop-p.p c.args.end c.min-live.result
batch-here c = batch _ _ _ _ (omega (arith, width-least c.loop-p.invariant.prepared.width)) c.loop-p-test.true c.min-live.ensures

pub overflow_sub-end : goal.overflow_sub-end
overflow_sub-end c = c.requires.from_le_end.0

pub fill_lanes-requires : goal.fill_lanes-requires
fill_lanes-requires c =
    let k = c.requires.prepared in
    ((plan.some_inputs k.planned).1, omega (arith, width-most k.width))

pub loop-p-init : goal.loop-p-init
loop-p-init c =
    let k = c.requires.prepared.planned in
    record {
      prepared = c.requires.prepared;
      long₁ = refl;
      long₂ = refl;
      lanes = c.fill_lanes.auto.inputs;
      on_grid = λ fewer. lowest_on_grid c.fill_lanes.new.inputs k (plan.inputs k) (c.fill_lanes.ensures fewer);
      within = c.requires.from_le_end.0;
      inside = c.requires.from_le_end.1;
      same = refl;
    }

pub slice_bounds-first_in_batch-end : goal.slice_bounds-first_in_batch-end
slice_bounds-first_in_batch-end c = sym c.loop-p.invariant.lanes

pub first_in_batch-l-requires : goal.first_in_batch-l-requires
first_in_batch-l-requires c =
    let k = c.loop-p.invariant in
    let b = batch-here (goal.at.first_in_batch-l-requires c).After-min-live in record { prepared = k.prepared; live = record { room = omega (arith, k.lanes, width-most k.prepared.width); some = b.some; few = b.room; inside = omega (arith, b.part, k.inside) }; dead_on_grid = λ i l hi dead hl. k.on_grid (b.all (omega (arith, dead, hl))) i l hi hl }

pub overflow_add-p : goal.overflow_add-p
overflow_add-p c = omega (arith, short c.loop-p.invariant _ (batch-here (goal.at.overflow_add-p c).After-min-live) c.first_in_batch-l.ensures.found)

pub shape_of-rows-then-l-live : goal.shape_of-rows-then-l-live
shape_of-rows-then-l-live c = c.first_in_batch-l.auto.rows ∙ c.loop-p.invariant.long₁

pub shape_of-other-then-l-live : goal.shape_of-other-then-l-live
shape_of-other-then-l-live c = c.first_in_batch-l.auto.other ∙ c.loop-p.invariant.long₂

pub returns-then-l-live : goal.returns-then-l-live
returns-then-l-live c = found c.loop-p.invariant _ (batch-here (goal.at.returns-then-l-live c).After-min-live) c.first_in_batch-l.ensures.found c.if-l-live.true

pub loop-p-smaller : goal.loop-p-smaller
loop-p-smaller c =
    omega (
      arith,
      c.loop-p-test.true,
      (batch-here (goal.at.loop-p-smaller c).After-min-live).some,
      c.if-l-live.false,
      short c.loop-p.invariant _ (batch-here (goal.at.loop-p-smaller c).After-min-live) c.first_in_batch-l.ensures.found,
    )

pub loop-p-preserved : goal.loop-p-preserved
loop-p-preserved c =
    let called = c.first_in_batch-l in
    more c.loop-p.invariant _ (batch-here (goal.at.loop-p-preserved c).After-min-live) called.ensures.found _ _ _ called.auto.rows
    called.auto.other called.auto.inputs called.ensures.on_grid c.if-l-live.false

pub shape_of-rows : goal.shape_of-rows
shape_of-rows c = c.loop-p.invariant.long₁

pub shape_of-other : goal.shape_of-other
shape_of-other c = c.loop-p.invariant.long₂

pub returns : goal.returns
returns c = finished c.loop-p.invariant c.loop-p-test.false
