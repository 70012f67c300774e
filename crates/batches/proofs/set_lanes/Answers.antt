-- `batches::set_lanes` meets its contract. The loop's invariant: v is the vector of the last lane set, and the lanes set hold theirs,
-- and the others are as where the loop begins.
-- Assumes nothing.
use mathlib.Core.Path.{◌≡◌, refl, sym, ◌∙◌, ap}
use mathlib.Core.Logic.{⊎_elim}
use mathlib.Core.List.{List}
use Prim.Native.Nat.{ℕ, ◌+◌, ◌-◌, ◌^◌, ◌≤◌, ◌<◌}
use native.Mathlib.Nat.{eq-or-lt_of_le}
use native.Mathlib.Omega.{arith}
use borrow.Author.Rules.{rules}
use mir.Syntax.{w64}
use mir.Val.{Fits}
use lib.ListN.{length, get_or}
use Rattle.rows.specs.Rows.{lane}
use Rattle.sizes.specs.Sizes.{max_inputs}
use Rattle.vectors.specs.Vectors.{held_at}
use Rattle.vectors.proofs.Raised.{arrays}
use Rattle.batches.proofs.set_lanes.Invariants.{Columns}
use Rattle.batches.proofs.set_lanes.Goals as goal

module _ (w : ℕ) (lows us : List ℕ) (p live : ℕ) (inputs₀ inputs' v : List ℕ) (long : length inputs' ≡ length inputs₀) (room : live ≤ w) (whole : length v ≡ max_inputs) where
  -- lane l is set to the vector v at place q = p + l
  more :
      (inputs : List ℕ) (l q : ℕ) → l < live → v ≡ held_at lows us q → q ≡ p + l → ((i : ℕ) → i < max_inputs → lane w inputs' i l ≡ get_or v i 0) →
      ((i k : ℕ) → k < w → ¬ (k ≡ l) → lane w inputs' i k ≡ lane w inputs i k) →
      ((i k : ℕ) → i < max_inputs → k < l → lane w inputs i k ≡ get_or (held_at lows us (p + k)) i 0) →
      ((i k : ℕ) → l + 1 ≤ k → k < w → lane w inputs' i k ≡ lane w inputs₀ i k) → Columns w lows us p live inputs₀ inputs' v (l + 1)
  more inputs l q h e at here others before after =
      let back : l + 1 - 1 ≡ l = omega arith in
      record {
        long = long;
        vector = rw (back, ← at) e;
        whole = whole;
        columns = λ i k hi hk. ⊎_elim
            (λ (same : k ≡ l). rw (same, ← at) (here i hi ∙ ap (λ w. get_or w i 0) e))
            (λ (less : k < l). others i k (omega arith) (λ same. omega arith) ∙ before i k hi less)
            (eq-or-lt_of_le (omega arith));
        others = after;
      }

  start :
      (inputs : List ℕ) → 1 ≤ live → v ≡ held_at lows us p → ((i : ℕ) → i < max_inputs → lane w inputs' i 0 ≡ get_or v i 0) →
      ((i k : ℕ) → k < w → ¬ (k ≡ 0) → lane w inputs' i k ≡ lane w inputs i k) →
      ((i k : ℕ) → 1 ≤ k → k < w → lane w inputs' i k ≡ lane w inputs₀ i k) → Columns w lows us p live inputs₀ inputs' v 1
  start inputs h e here others after = more inputs 0 p h e (omega arith) here others (λ i k hi hk. absurd (omega arith)) after

pub vector_at-v-requires : goal.vector_at-v-requires
vector_at-v-requires c = record { d_le_max_inputs = c.requires.d_le_max_inputs; p_bound = omega (arith, c.requires.live.some, c.requires.live.inside) }

pub loop-l-init : goal.loop-l-init
loop-l-init c =
    start _ _ _ _ _ _ _ _ refl c.requires.live.few (search rules) c.args.inputs.now c.requires.live.some
    c.vector_at-v.ensures.words c.set_column.ensures.set c.set_column.ensures.others (λ i k hl hk. refl)

pub slice_bounds-advance-end-in-loop-l-2 : goal.slice_bounds-advance-end-in-loop-l-2
slice_bounds-advance-end-in-loop-l-2 c = sym c.loop-l.invariant.whole

pub advance-requires : goal.advance-requires
advance-requires c =
    let k = c.loop-l.invariant in
    let p = c.args.p in
    let lows : (i : ℕ) → get_or c.args.lows i 0 < 2 ^ 64 = λ i. (let f : Fits w64 (get_or c.args.lows i 0) = search rules in f.fits) in
    let axes : (i : ℕ) → get_or c.args.axes i 0 < 2 ^ 64 = λ i. (let f : Fits w64 (get_or c.args.axes i 0) = search rules in f.fits) in record { arrays = arrays _ _ _ (search rules) (search rules) c.requires.d_le_max_inputs lows axes; d_in_bounds = (omega (arith, c.requires.d_le_max_inputs), omega (arith, c.requires.d_le_max_inputs, k.whole)); placed = record { place = p + (c.loop-l.l - 1); inside = omega (arith, c.requires.live.inside, c.loop-l-test.true); shape = k.vector } }

pub set_column-requires-in-loop-l : goal.set_column-requires-in-loop-l
set_column-requires-in-loop-l c =
    let k = c.loop-l.invariant in (
      omega (arith, c.requires.live.few, c.loop-l-test.true),
      omega (arith, c.requires.live.room, k.long, c.set_column.auto.rows),
    )

pub loop-l-preserved : goal.loop-l-preserved
loop-l-preserved c =
    let k = c.loop-l.invariant in
    let t = c.loop-l-test.true in
    let p = c.args.p in
    let l = c.loop-l.l in
    more _ _ _ _ _ _ _ _ (c.set_column-in-loop-l.auto.rows ∙ k.long) c.requires.live.few (c.advance.auto.v ∙ k.whole) c.loop-l.inputs l (p + (l - 1) + 1) t
    (c.advance.ensures (p + (l - 1)) (omega (arith, c.requires.live.inside, t)) k.vector) (omega arith)
    c.set_column-in-loop-l.ensures.set c.set_column-in-loop-l.ensures.others k.columns
    (λ i j hl hj. c.set_column-in-loop-l.ensures.others i j hj (λ same. omega (arith, hl, same)) ∙ k.others i j (omega (arith, hl)) hj)

pub returns : goal.returns
returns c =
    let k = c.loop-l.invariant in
    let t = c.loop-l-test.false in
    record {
      set = λ i l hi hl. k.columns i l hi (omega (arith, t));
      others =
          λ i l low hl. k.others i l (omega (arith, low)) hl
          ∙ c.set_column.ensures.others i l hl (λ same. omega (arith, low, same));
    }
