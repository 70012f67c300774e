-- One step more or one step again: a row that is as before holds what it held. What the last row shows.
-- Assumes nothing.
use mathlib.Core.List.{List}
use mathlib.Core.Logic.{⊎_elim}
use mathlib.Core.Path.{◌≡◌, ◌∙◌, ap}
use Prim.Native.Nat.{ℕ, ◌-◌, ◌%◌, ◌^◌, ◌≤◌}
use native.Mathlib.Omega.{arith}
use lib.ListN.{length}
use Rattle.dependence.specs.Dependence.{value_at}
use Rattle.evaluate.specs.Evaluate.{output_of}
use Rattle.fields.specs.File.{sizes_of, step_count}
use Rattle.fields.proofs.Steps.{length-steps}
use Rattle.rows.specs.Rows.{max_lanes, lane}
use Rattle.datapath.specs.Steps.{exact, output}
use Rattle.lanes.specs.Lanes.{few_lanes, Width, Held, Shown, Room}

pub width-most : {w : ℕ} → Width w → w ≤ max_lanes
width-most h = ⊎_elim (λ e. omega arith) (λ e. omega arith) h

pub width-least : {w : ℕ} → Width w → few_lanes ≤ w
width-least h = ⊎_elim (λ e. omega arith) (λ e. omega arith) h

pub width_narrow : {w : ℕ} → Width w → ¬ (w ≡ max_lanes) → w ≡ few_lanes
width_narrow h d = ⊎_elim (λ e. absurd (d e)) (λ e. e) h

pub held_kept : (w : ℕ) (s x before after : List ℕ) (l i : ℕ) → lane w after i l ≡ lane w before i l → Held w s x before l i → Held w s x after l i
held_kept w s x before after l i e h = ap (λ v. v % 2 ^ (sizes_of s).m) e ∙ h

pub room-kept : {w : ℕ} {s : List ℕ} {n : ℕ} {inputs before after : List ℕ} → length after ≡ length before → Room w s n inputs before → Room w s n inputs after
room-kept e r =
    record { width = r.width; sound = r.sound; count = r.count; input_rows = r.input_rows; step_rows = omega (arith, r.step_rows, e) }

-- what a lane of the last row holds, cut to m bits, is the output
pub lane-output : (w : ℕ) (s x rows : List ℕ) (l n : ℕ) → n ≡ step_count s → Held w s x rows l (n - 1) → Shown w s x rows l (n - 1)
unfolding value_at output_of output exact
lane-output w s x rows l n e h = h ∙ rw (length-steps s, e)
