-- `batches::fill_lanes` meets its contract. The loop's invariant: the rows of the first i inputs hold their lowest values. Where there are as many
-- places as lanes, nothing is promised.
-- Assumes nothing.
use mathlib.Core.List.{List}
use mathlib.Core.Logic.{⊎_elim}
use mathlib.Core.Path.{◌≡◌, refl, ◌∙◌}
use Prim.Native.Nat.{ℕ, ◌+◌, ◌<◌}
use native.Mathlib.Nat.{eq-or-lt_of_le}
use native.Mathlib.Omega.{arith}
use lib.ListN.{length, get_or}
use Rattle.rows.specs.Rows.{Written}
use Rattle.rows.proofs.Writing.{before-row}
use Rattle.sizes.specs.Sizes.{max_inputs}
use Rattle.batches.proofs.fill_lanes.Invariants.{Filled}
use Rattle.batches.proofs.fill_lanes.Goals as goal

more :
    (w d : ℕ) (lows inputs₀ inputs inputs' : List ℕ) (i : ℕ) → Filled w d lows inputs₀ inputs i → i < d → length inputs' ≡ length inputs →
    Written w inputs inputs' i (λ l. get_or lows i 0) → Filled w d lows inputs₀ inputs' (i + 1)
more w d lows inputs₀ inputs inputs' i f h e written =
    record {
      long = e ∙ f.long;
      rows = λ j l hj hl. ⊎_elim
          (λ (same : j ≡ i). rw same (written.row l hl))
          (λ (less : j < i). written.others j l hl (λ same. omega arith) ∙ f.rows j l less hl)
          (eq-or-lt_of_le (omega arith));
    }

pub loop-i-init : goal.loop-i-init
loop-i-init c = record { long = refl; rows = λ i l h. absurd (omega arith) }

pub fill_row-requires : goal.fill_row-requires
fill_row-requires c = omega (arith, c.requires.1, c.loop-i.invariant.long, before-row c.args.w c.loop-i.i max_inputs (omega (arith, c.requires.0, c.loop-i-test.true)))

pub loop-i-preserved : goal.loop-i-preserved
loop-i-preserved c = more _ _ _ _ _ _ _ c.loop-i.invariant c.loop-i-test.true c.fill_row.auto.rows c.fill_row.ensures

pub returns : goal.returns
returns c =
    let f = c.loop-i.invariant in
    λ fewer i l hi hl. f.rows i l (omega (arith, c.loop-i-test.false)) hl
