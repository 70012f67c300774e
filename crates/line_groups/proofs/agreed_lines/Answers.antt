-- `line_groups::agreed_lines` meets its contract. The loop's invariant: the outputs agree at every place of the lines from the first of the span to before r.
-- Assumes nothing.
use mathlib.Core.Bool.{false, not}
use mathlib.Core.List.{List}
use mathlib.Core.Path.{◌≡◌, refl, sym, ◌∙◌, ap}
use Prim.Native.Nat.{ℕ, ◌+◌, ◌*◌, ◌-◌, ◌/◌, ◌%◌, ◌^◌, ◌≤◌, ◌<◌, max}
use native.Mathlib.Decide.{dec_lt}
use native.Mathlib.Nat.{div-lt_iff_lt-mul, mod-lt, le-div_iff_mul-le, le_of_mul-le-mul_right, le_trans, le-max_left, le-max_right, le-mul_of_pos_right, mul-le-mul_right}
use native.Mathlib.Omega.{arith}
use borrow.Author.Tests.{eq-eqb}
use lib.ListN.{length, get_or, take, drop, length-take}
use Rattle.batches.specs.Batch.{LanesSet}
use Rattle.batches.specs.declared.Shape.{Shape}
use Rattle.grid.specs.Grid.{grid_size}
use Rattle.batches.proofs.Tests.{output-test, inputs-room, prepared_kept}
use Rattle.batches.proofs.OnGrid.{held-entry}
use Rattle.dependence.proofs.Cut.{listed-cut, rest-cut}
use Rattle.evaluate.specs.Run.{word_output}
use Rattle.fields.specs.File.{sizes_of}
use Rattle.lanes.specs.Lanes.{LanesOnGrid}
use Rattle.lanes.proofs.Stepped.{width-most, width-least}
use Rattle.lists.proofs.Lists.{drop-later}
use Rattle.plan.specs.Comparison.{outputs_differ}
use Rattle.plan.specs.declared.Plan.{Plan}
use Rattle.plan.proofs.Axes.{file-grid-least}
use Rattle.plan.proofs.Numbers as plan
use Rattle.places.specs.Places.{size, digits_at}
use Rattle.rows.specs.Rows.{max_lanes, lane}
use Rattle.sizes.specs.Sizes.{max_inputs}
use Rattle.grid_lines.specs.Lines.{last_axis, last_low}
use Rattle.grid_lines.proofs.Lines.{axis-at, low-at}
use Rattle.line_outputs.specs.AlongLines.{Front, Last}
use Rattle.vectors.specs.Vectors.{low_words, held_at}
use Rattle.line_groups.proofs.GridLines.{size-lines, last-axis-least, front-most, front-last, line-front, line-last}
use Rattle.line_groups.proofs.agreed_lines.Goals.{After-list_dependent-count2}
use Rattle.line_groups.proofs.agreed_lines.Invariants.{Passed}
use Rattle.line_groups.proofs.agreed_lines.Goals as goal

module _
    {v : Shape} {s₁ s₂ : List ℕ} {g : Plan} {from stop : ℕ} {rows₁₀ rows₂₀ rows₁ rows₂ inputs : List ℕ} {r : ℕ}
    (k : Passed v s₁ s₂ g from stop rows₁₀ rows₂₀ rows₁ rows₂ inputs r)
  where
    abbrev w : ℕ
    w = v.w

    abbrev d : ℕ
    d = g.d

    abbrev axes : List ℕ
    axes = g.axes

    abbrev u : ℕ
    u = last_axis g

    some : 1 ≤ d
    some = (plan.some_inputs k.prepared.planned).0

    last-least : 0 < u
    unfolding grid_size
    last-least = last-axis-least axes d some k.enough 0 (rw (plan.grid k.prepared.planned) (file-grid-least s₁ k.prepared.planned.files.sound₁))

    stop-fits : stop < 2 ^ 64
    stop-fits = omega (arith, le-mul_of_pos_right stop last-least, k.inside, plan.places_fit k.prepared.planned)

    module _ (t : w ≤ stop - r) where
      block : (r + w) * u ≤ size (take d axes)
      block =
          let within : r + w ≤ stop = omega (arith, k.high) in
          le_trans (mul-le-mul_right u within) k.inside

      lines_left : r + w ≤ size (take (d - 1) axes)
      lines_left = le_of_mul-le-mul_right (rw (size-lines axes d some k.enough) at block) last-least

      -- an entry of the words at a place of the grid or of its lines
      lows-entry :
          (us : List ℕ) (p i : ℕ) → length us ≤ max_inputs → i < max_inputs →
          get_or (held_at g.lows us p) i 0 ≡ (get_or (low_words (sizes_of s₁)) i 0 + get_or (digits_at us p) i 0) % 2 ^ 64
      lows-entry us p i few h =
          ap (λ l. get_or (held_at l us p) i 0) (plan.lowest k.prepared.planned) ∙ held-entry s₁ k.prepared.planned.files.sound₁ us p i few h

      few-lines : length (take (d - 1) axes) ≤ max_inputs
      few-lines = rw length-take (omega (arith, (plan.some_inputs k.prepared.planned).1))

      -- the lanes set to the lines of the grid from r on, with the lowest value of the last input, are on the grid
      on-grid : (before inputs' : List ℕ) → LanesSet w g.lows (take (d - 1) axes) r w before inputs' → LanesOnGrid w s₁ inputs'
      on-grid before inputs' wr i l h t =
          let line : r + l < size (take (d - 1) axes) = omega (arith, lines_left) in
          let axis = axis-at k.prepared.planned i (omega (arith, h, plan.inputs k.prepared.planned)) in
          let room : i < max_inputs = omega (arith, h, k.prepared.planned.files.sound₁.inputs_high) in
          record {
            count = get_or (digits_at (take (d - 1) axes) (r + l)) i 0;
            below = elim (dec_lt i (d - 1)) [
              | yes front ↦ omega (arith, axis, front-most axes d some k.enough (r + l) line i front)
              | no end ↦
                  let last : i ≡ d - 1 = omega (arith, h, plan.inputs k.prepared.planned) in
                  let zero : get_or (digits_at (take (d - 1) axes) (r + l)) i 0 ≡ 0 = rw last (front-last axes d some k.enough (r + l) line) in
                  let pos : 0 < get_or axes i 0 = rw last last-least in
                  omega (arith, axis)
            ];
            above = wr.set i l room t ∙ lows-entry (take (d - 1) axes) (r + l) i few-lines room;
          }

      module _
          (inputs' : List ℕ) (filled : (i l : ℕ) → i < max_inputs → l < w → lane w inputs' i l ≡ get_or (held_at g.lows (take (d - 1) axes) (r + l)) i 0)
          (a : ℕ) (few : a ≤ w)
          (agrees : (l t : ℕ) (x : List ℕ) → l < a → t < u → Front w d inputs' l x → Last d (last_low g) t x → word_output s₁ x ≡ word_output s₂ x)
        where
          few-axes : length (take d axes) ≤ max_inputs
          few-axes = rw length-take (omega (arith, (plan.some_inputs k.prepared.planned).1))

          -- a place of the block is in the row of lane p / u - r
          place : (p : ℕ) → r * u ≤ p → p < (r + a) * u → outputs_differ s₁ s₂ p ≡ false
          place p low high =
              let part : r + a ≤ r + w = omega arith in
              let h : p < size (take d axes) = omega (arith, block, mul-le-mul_right u part) in
              let above : r ≤ p / u = (le-div_iff_mul-le last-least).1 low in
              let below : p / u < r + a = (div-lt_iff_lt-mul last-least).1 high in
              let l : p / u - r < a = omega arith in
              let e : r + (p / u - r) ≡ p / u = omega arith in
              let x = held_at g.lows (take d axes) p in
              let low_word : ℕ → ℕ = λ i. get_or (low_words (sizes_of s₁)) i 0 in
              let front : Front w d inputs' (p / u - r) x =
              λ i g.
              let room : i < max_inputs = omega (arith, g, plan.inputs k.prepared.planned, k.prepared.planned.files.sound₁.inputs_high) in
              filled i (p / u - r) room (omega arith)
              ∙ lows-entry (take (d - 1) axes) (r + (p / u - r)) i few-lines room
              ∙ ap (λ q. (low_word i + get_or (digits_at (take (d - 1) axes) q) i 0) % 2 ^ 64) e
              ∙ ap (λ n. (low_word i + n) % 2 ^ 64) (sym (line-front axes d some k.enough p h i g))
              ∙ sym (lows-entry (take d axes) p i few-axes room) in
              let room : d - 1 < max_inputs = omega (arith, plan.inputs k.prepared.planned, k.prepared.planned.files.sound₁.inputs_high, some) in
              let last : Last d (last_low g) (p % u) x =
              lows-entry (take d axes) p (d - 1) few-axes room
              ∙ ap (λ n. (low_word (d - 1) + n) % 2 ^ 64) (line-last axes d some k.enough p h)
              ∙ ap (λ n. (n + p % u) % 2 ^ 64) (sym (low-at k.prepared.planned (d - 1))) in
              let same = agrees (p / u - r) (p % u) x l (mod-lt p last-least) front last in
              sym (output-test s₁ s₂ p k.prepared.planned.files)
              ∙ ap not (eq-eqb _ _ (rw (plan.grid k.prepared.planned, plan.lowest k.prepared.planned) at same))

          passed : (p : ℕ) → from * u ≤ p → p < (r + a) * u → outputs_differ s₁ s₂ p ≡ false
          passed p low high = elim (dec_lt p (r * u)) [ yes h ↦ k.agree p low h | no h ↦ place p (omega arith) high ]

          more :
              (rows₁' rows₂' inputs'' : List ℕ) → length rows₁' ≡ length rows₁ → length rows₂' ≡ length rows₂ → length inputs'' ≡ max_lanes * max_inputs →
              w ≤ a → Passed v s₁ s₂ g from stop rows₁₀ rows₂₀ rows₁' rows₂' inputs'' (r + w)
          more rows₁' rows₂' inputs'' e₁ e₂ e₃ all =
              let e : a ≡ w = omega arith in
              record {
                prepared = prepared_kept k.prepared rows₁' rows₂' e₁ e₂;
                long₁ = e₁ ∙ k.long₁;
                long₂ = e₂ ∙ k.long₂;
                lanes = e₃;
                enough = k.enough;
                inside = k.inside;
                low = omega (arith, k.low);
                high = omega (arith, k.high);
                agree = λ p low high. passed p low (rw e high);
              }

-- the flags past those of the steps are as at entry
flags-kept :
    (c : After-list_dependent-count2) →
    let a = c.args in
    drop (max a.plan.n1 a.plan.n2) c.list_dependent-count2.new.flags ≡ drop (max a.plan.n1 a.plan.n2) a.flags.now
flags-kept c =
    let a = c.args in
    drop-later _ _ a.plan.n2 _ (le-max_right a.plan.n1 a.plan.n2) c.list_dependent-count2.ensures.kept
    ∙ drop-later _ _ a.plan.n1 _ (le-max_left a.plan.n1 a.plan.n2) c.list_dependent-count1.ensures.kept

pub overflow_sub-d : goal.overflow_sub-d
overflow_sub-d c = (plan.some_inputs c.requires.prepared.planned).0

pub list_dependent-count1-requires : goal.list_dependent-count1-requires
list_dependent-count1-requires c =
    let k = c.requires.prepared.planned in
    record { counted = record { sound = k.files.sound₁; count = plan.count₁ k }; n_in_bounds = (omega (arith, c.requires.lists.flagged, le-max_left c.args.plan.n1 c.args.plan.n2), c.requires.lists.room₁) }

pub overflow_sub-d-2 : goal.overflow_sub-d-2
overflow_sub-d-2 c = (plan.some_inputs c.requires.prepared.planned).0

pub list_dependent-count2-requires : goal.list_dependent-count2-requires
list_dependent-count2-requires c =
    let k = c.requires.prepared.planned in record {
      counted = record { sound = k.files.sound₂; count = plan.count₂ k };
      n_in_bounds = (
        omega (arith, c.requires.lists.flagged, le-max_right c.args.plan.n1 c.args.plan.n2, c.list_dependent-count1.auto.flags),
        c.requires.lists.room₂,
      );
    }

pub loop-r-init : goal.loop-r-init
loop-r-init c =
    record {
      prepared = c.requires.prepared;
      long₁ = refl;
      long₂ = refl;
      lanes = refl;
      enough = plan.enough c.requires.prepared.planned;
      inside = c.requires.from_le_end.1;
      low = omega arith;
      high = c.requires.from_le_end.0;
      agree = λ p low high. absurd (omega arith);
    }

pub overflow_sub-span : goal.overflow_sub-span
overflow_sub-span c = c.loop-r.invariant.high

pub slice_bounds-set_lanes-end : goal.slice_bounds-set_lanes-end
slice_bounds-set_lanes-end c = sym c.loop-r.invariant.lanes

pub overflow_sub-d-in-loop-r : goal.overflow_sub-d-in-loop-r
overflow_sub-d-in-loop-r c = some c.loop-r.invariant

pub set_lanes-requires : goal.set_lanes-requires
set_lanes-requires c =
    let k = c.loop-r.invariant in
    let e = plan.inputs k.prepared.planned in
    let few = k.prepared.planned.files.sound₁.inputs_high in record {
      d_le_max_inputs = omega (arith, e, few);
      live = record {
        room = omega (arith, width-most k.prepared.width, k.lanes);
        some = omega (arith, width-least k.prepared.width);
        few = omega arith;
        inside = lines_left k c.loop-r-test.true;
      };
    }

pub agreeing_lanes-l-requires : goal.agreeing_lanes-l-requires
agreeing_lanes-l-requires c =
    let k = c.loop-r.invariant in
    let grid = on-grid k c.loop-r-test.true _ _ c.set_lanes.ensures in record {
      prepared = k.prepared;
      dependents = record { listed₁ = listed-cut c.list_dependent-count1.ensures.listed; listed₂ = listed-cut c.list_dependent-count2.ensures.listed; rest₁ = rest-cut _ _ c.list_dependent-count1.ensures.listed c.list_dependent-count1.ensures.rest; rest₂ = rest-cut _ _ c.list_dependent-count2.ensures.listed c.list_dependent-count2.ensures.rest };
      fronts = record {
        room = inputs-room k.prepared c.set_lanes.new.inputs (omega (arith, c.set_lanes.auto.inputs, k.lanes, width-most k.prepared.width));
        on_grid = grid;
      };
    }

pub overflow_add-result : goal.overflow_add-result
overflow_add-result c = omega (arith, c.loop-r-test.true, stop-fits c.loop-r.invariant)

pub returns-then-l-w : goal.returns-then-l-w
returns-then-l-w c =
    let t = c.loop-r-test.true in
    let k = c.loop-r.invariant in
    record {
      low = omega (arith, k.low);
      high = omega (arith, k.high, t);
      agree = passed k t c.set_lanes.new.inputs c.set_lanes.ensures.set _ c.agreeing_lanes-l.ensures.high c.agreeing_lanes-l.ensures.agree;
      kept = flags-kept (goal.at.returns-then-l-w c).After-list_dependent-count2;
    }

pub overflow_add-r : goal.overflow_add-r
overflow_add-r c = omega (arith, c.loop-r-test.true, stop-fits c.loop-r.invariant)

pub loop-r-smaller : goal.loop-r-smaller
loop-r-smaller c = omega (arith, c.loop-r-test.true, width-least c.loop-r.invariant.prepared.width)

pub loop-r-preserved : goal.loop-r-preserved
loop-r-preserved c =
    let k = c.loop-r.invariant in
    more k c.loop-r-test.true c.set_lanes.new.inputs c.set_lanes.ensures.set _ c.agreeing_lanes-l.ensures.high c.agreeing_lanes-l.ensures.agree _ _ _ c.agreeing_lanes-l.auto.rows
    c.agreeing_lanes-l.auto.other (c.agreeing_lanes-l.auto.inputs ∙ c.set_lanes.auto.inputs ∙ k.lanes) (omega arith)

pub shape_of-rows : goal.shape_of-rows
shape_of-rows c = c.loop-r.invariant.long₁

pub shape_of-other : goal.shape_of-other
shape_of-other c = c.loop-r.invariant.long₂

pub shape_of-list1 : goal.shape_of-list1
shape_of-list1 c = c.list_dependent-count1.auto.list

pub shape_of-list2 : goal.shape_of-list2
shape_of-list2 c = c.list_dependent-count2.auto.list

pub shape_of-flags : goal.shape_of-flags
shape_of-flags c = c.list_dependent-count2.auto.flags ∙ c.list_dependent-count1.auto.flags

pub returns : goal.returns
returns c =
    let k = c.loop-r.invariant in
    record { low = k.low; high = k.high; agree = k.agree; kept = flags-kept (goal.at.returns c).After-list_dependent-count2 }
