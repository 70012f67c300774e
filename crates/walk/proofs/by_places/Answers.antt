-- `walk::by_places` meets its contract. The loop's invariant: v holds the vector at place p while p is before the end, the outputs
-- agree at every place passed, and the scratch entries past the larger count are as at entry.
-- Assumes nothing.
use mathlib.Core.Path.{◌≡◌, refl, sym, ◌∙◌, ap, ap₂}
use mathlib.Core.Bool.{Bool, true, false, not}
use mathlib.Core.List.{List}
use Prim.Native.Nat.{ℕ, ◌+◌, ◌-◌, ◌≤◌, ◌<◌, max}
use native.Mathlib.Nat.{le-max_left, le-max_right}
use native.Mathlib.Omega.{arith}
use borrow.Author.Rules.{rules}
use lib.Dec.{eqb}
use lib.ListN.{length, take, drop}
use Rattle.batches.proofs.OnGrid.{place_on_grid}
use Rattle.batches.proofs.Tests.{words_at, output-test}
use Rattle.evaluate.specs.Run.{word_output, Ready}
use Rattle.lanes.specs.Lanes.{VectorOnGrid}
use Rattle.places.specs.Places.{size}
use Rattle.plan.specs.Comparison.{outputs_differ}
use Rattle.plan.specs.declared.Plan.{Plan}
use Rattle.plan.specs.declared.Span.{Span}
use Rattle.plan.proofs.Numbers as plan
use Rattle.ranges.specs.Search.{first}
use Rattle.ranges.proofs.Search.{first-here, first_step, first_end}
use Rattle.sizes.specs.Sizes.{max_inputs}
use Rattle.vectors.specs.Vectors.{held_at, Placed, Next}
use Rattle.walk.proofs.by_places.Invariants.{Passed}
use Rattle.walk.proofs.by_places.Goals as goal

module _
    {s₁ s₂ : List ℕ} {g : Plan} {r : Span} {scratch₀ scratch v : List ℕ} {p : ℕ}
    (k : Passed s₁ s₂ g r scratch₀ scratch v p)
  where
    finished : r.end ≤ p → p ≡ first (outputs_differ s₁ s₂) r.from (r.end - r.from)
    finished h = sym (k.same ∙ first_end (outputs_differ s₁ s₂) p r.end h)

    module _ (t : p < r.end) where
      ready₁ : Ready s₁ g.n1 v scratch
      ready₁ =
          record {
            sound = k.span.planned.files.sound₁;
            count = plan.count₁ k.span.planned;
            inputs = omega (arith, k.full, k.span.planned.files.sound₁.inputs_high);
            room = omega (arith, k.long, k.span.room, le-max_left g.n1 g.n2);
          }

      ready₂ : Ready s₂ g.n2 v scratch
      ready₂ =
          record {
            sound = k.span.planned.files.sound₂;
            count = plan.count₂ k.span.planned;
            inputs = omega (arith, k.full, k.span.planned.files.sound₂.inputs_high);
            room = omega (arith, k.long, k.span.room, le-max_right g.n1 g.n2);
          }

      placed : Placed g.lows (take g.d g.axes) v
      placed = record { place = p; inside = omega (arith, k.span.inside); shape = k.vector t }

      held : v ≡ words_at s₁ p
      held = k.vector t ∙ ap₂ (λ lows us. held_at lows us p) (plan.lowest k.span.planned) (plan.grid k.span.planned)

      on-grid : VectorOnGrid s₁ v
      on-grid i h =
          rw held
          (place_on_grid s₁ k.span.planned.files.sound₁ p (omega (arith, ap size (plan.grid k.span.planned), k.span.inside)) i h)

      -- b is the outcome of the test at this place
      module _ (b : Bool) (tested : b ≡ not (eqb (word_output s₁ v) (word_output s₂ v))) where
        test : b ≡ outputs_differ s₁ s₂ p
        test = tested ∙ ap (λ x. not (eqb (word_output s₁ x) (word_output s₂ x))) held ∙ output-test s₁ s₂ p k.span.planned.files

        found : b ≡ true → p ≡ first (outputs_differ s₁ s₂) r.from (r.end - r.from)
        found e = sym (k.same ∙ first-here (outputs_differ s₁ s₂) p (r.end - p) (sym test ∙ e))

        more :
            (scratch' v' : List ℕ) → b ≡ false → length scratch' ≡ length scratch → drop (max g.n1 g.n2) scratch' ≡ drop (max g.n1 g.n2) scratch →
            length v' ≡ max_inputs →
            Next g.lows (take g.d g.axes) v v' →
            Passed s₁ s₂ g r scratch₀ scratch' v' (p + 1)
        more scratch' v' e l q w step =
            record {
              span = k.span;
              long = l ∙ k.long;
              kept = q ∙ k.kept;
              within = omega arith;
              full = w;
              vector = λ h. step p (omega (arith, k.span.inside)) (k.vector t);
              same = k.same ∙ first_step (outputs_differ s₁ s₂) p r.end t (sym test ∙ e);
            }

pub vector_at-v-requires : goal.vector_at-v-requires
vector_at-v-requires c = record { d_le_max_inputs = (plan.some_inputs c.requires.planned).1; p_bound = omega (arith, c.requires.some, c.requires.inside) }

pub loop-p-init : goal.loop-p-init
loop-p-init c =
    record {
      span = c.requires;
      long = refl;
      kept = refl;
      within = omega (arith, c.requires.some);
      full = search rules;
      vector = λ h. c.vector_at-v.ensures.words;
      same = refl;
    }

pub slice_bounds-differ_at-end : goal.slice_bounds-differ_at-end
slice_bounds-differ_at-end c = sym c.loop-p.invariant.full

pub differ_at-requires : goal.differ_at-requires
differ_at-requires c =
    let k = c.loop-p.invariant in
    let t = c.loop-p-test.true in
    record { ready = ready₁ k t; ready_2 = ready₂ k t; vector_on_grid = on-grid k t }

pub shape_of-scratch-then-differ_at : goal.shape_of-scratch-then-differ_at
shape_of-scratch-then-differ_at c = c.differ_at.auto.scratch ∙ c.loop-p.invariant.long

pub returns-then-differ_at : goal.returns-then-differ_at
returns-then-differ_at c =
    let k = c.loop-p.invariant in
    record { found = found k c.loop-p-test.true _ c.differ_at.ensures.differ c.if-differ_at.true; kept = c.differ_at.ensures.kept ∙ k.kept }

pub slice_bounds-advance-end : goal.slice_bounds-advance-end
slice_bounds-advance-end c = sym (plan.whole-axes c.loop-p.invariant.span.planned)

pub slice_bounds-advance-end-in-loop-p : goal.slice_bounds-advance-end-in-loop-p
slice_bounds-advance-end-in-loop-p c = sym (plan.whole-lows c.loop-p.invariant.span.planned)

pub slice_bounds-advance-end-in-loop-p-2 : goal.slice_bounds-advance-end-in-loop-p-2
slice_bounds-advance-end-in-loop-p-2 c = sym c.loop-p.invariant.full

pub advance-requires : goal.advance-requires
advance-requires c =
    let k = c.loop-p.invariant in
    let g = k.span.planned in record { arrays = plan.arrays g; d_in_bounds = (plan.enough g, omega (arith, k.full, plan.inputs g, g.files.sound₁.inputs_high)); placed = placed k c.loop-p-test.true }

pub loop-p-preserved : goal.loop-p-preserved
loop-p-preserved c =
    more c.loop-p.invariant c.loop-p-test.true
    _ c.differ_at.ensures.differ _ _ c.if-differ_at.false c.differ_at.auto.scratch c.differ_at.ensures.kept (c.advance.auto.v ∙ c.loop-p.invariant.full) c.advance.ensures

pub shape_of-scratch : goal.shape_of-scratch
shape_of-scratch c = c.loop-p.invariant.long

pub returns : goal.returns
returns c =
    let e : c.args.span.end ≡ c.loop-p.p = omega (arith, c.loop-p.invariant.within) in
    record { found = e ∙ finished c.loop-p.invariant c.loop-p-test.false; kept = c.loop-p.invariant.kept }
