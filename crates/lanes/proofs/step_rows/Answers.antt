-- `lanes::step_rows` meets its contract. The loop's invariant: in each lane every row that is not among the chosen ones from q on holds its value.
-- They are chosen in increasing order, so all rows before that of step(q) are such.
-- Assumes nothing.
use mathlib.Core.List.{List}
use mathlib.Core.Path.{◌≡◌, refl, sym, ◌∙◌, subst}
use Prim.Native.Nat.{ℕ, ◌+◌, ◌<◌}
use native.Mathlib.Decide.{ℕ_discrete}
use native.Mathlib.Omega.{arith}
use borrow.Author.Count.{below_none, below_more}
use lib.ListN.{length}
use Rattle.lanes.specs.Lanes.{Chosen, Stepped}
use Rattle.lanes.proofs.Stepped.{held_kept, room-kept}
use Rattle.lanes.proofs.step_rows.Invariants.{Done, Run}
use Rattle.lanes.proofs.step_rows.Goals as goal

none : (w : ℕ) (s : List ℕ) (n : ℕ) (inputs rows : List ℕ) (count : ℕ) (R : ℕ → ℕ → Type 0) → Run w s n inputs rows count R rows 0
none w s n inputs rows count R =
    record { long = refl; chosen = below_none _; held = λ l x b reads before i h done. before i h (λ q k less r. done q k (omega arith) less r) }

module _
    {w : ℕ} {s : List ℕ} {n : ℕ} {inputs rows₀ : List ℕ} {count : ℕ} {R : ℕ → ℕ → Type 0} {rows : List ℕ} {q : ℕ}
    (r : Run w s n inputs rows₀ count R rows q) (o : Chosen n count R) (t : q < count) (k : ℕ) (here : R q k)
  where
    -- all steps before step k are done
    earlier : (i : ℕ) → i < k → Done count R q i
    earlier i h p k' g l u e =
        elim (ℕ_discrete p q) [
          | yes z ↦ omega (arith, o.single q k' k t (subst (λ a. R a k') z u) here)
          | no z ↦ omega (arith, o.increasing q p k k' (omega arith) l here u)
        ]

    -- what is done after step k and is not that step was done before it
    later : (i : ℕ) → Done count R (q + 1) i → ¬ (i ≡ k) → Done count R q i
    later i done z p k' g l u e =
        elim (ℕ_discrete p q) [
          | yes y ↦ z (sym e ∙ o.single q k' k t (subst (λ a. R a k') y u) here)
          | no y ↦ done p k' (omega arith) l u e
        ]

    more : (after : List ℕ) → length after ≡ length rows → Stepped w s inputs rows after k → Run w s n inputs rows₀ count R after (q + 1)
    more after e g =
        record {
          long = e ∙ r.long;
          chosen = below_more _ q r.chosen (k, here);
          held =
              λ l x b reads before i h done.
              elim (ℕ_discrete i k) [
                | yes z ↦ rw z (g.row l x b reads (λ j less. r.held l x b reads before j (omega (arith, o.below q k t here)) (earlier j less)))
                | no z ↦ held_kept w s x rows after l i (g.others i l b z) (r.held l x b reads before i h (later i done z))
              ];
        }

pub loop-q-init : goal.loop-q-init
loop-q-init g c = none _ _ _ _ _ _ _

pub step_row-requires : goal.step_row-requires
step_row-requires g c =
    record {
      room = room-kept c.loop-q.invariant.long c.requires.room;
      k_lt_n = c.requires.chosen.below _ _ c.loop-q-test.true c.step.ensures;
      lanes_on_grid = c.requires.lanes_on_grid;
    }

pub loop-q-preserved : goal.loop-q-preserved
loop-q-preserved g c =
    more c.loop-q.invariant c.requires.chosen c.loop-q-test.true _ c.step.ensures _ c.step_row.auto.rows c.step_row.ensures

pub shape_of-rows : goal.shape_of-rows
shape_of-rows g c = c.loop-q.invariant.long

pub returns : goal.returns
returns g c =
    record {
      chosen = λ q less. c.loop-q.invariant.chosen q (omega arith);
      held = λ l x b reads before i h. c.loop-q.invariant.held l x b reads before i h (λ p k low less u e. omega arith);
    }
