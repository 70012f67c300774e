-- The rows that the engine sets up have room for the files' steps, with rows of their own for each file or in turn.
-- Assumes nothing.
use mathlib.Core.Path.{◌≡◌}
use mathlib.Core.Bool.{true, false}
use Prim.Native.Nat.{ℕ, ◌*◌, ◌≤◌}
use native.Mathlib.Omega.{arith}
use Rattle.batches.specs.Prepared.{max_axis}
use Rattle.lanes.specs.Lanes.{Width}
use Rattle.lanes.proofs.Stepped.{width-most}
use Rattle.plan.specs.declared.Plan.{Plan}
use Rattle.rows.specs.Rows.{max_lanes}
use Rattle.engine.specs.Lengths.{Enough}

module _
    {p : Plan} {w rows other list : ℕ} (width : Width w) (room₁ : w * p.n1 ≤ rows) (listed₁ : p.n1 ≤ list) (listed₂ : p.n2 ≤ list)
  where
    -- rows for the steps of each file
    pub apart : w * p.n2 ≤ other → Enough (record { w = w; turn = false }) p rows other list
    apart room₂ =
        record {
          width = width;
          room₁ = room₁;
          room₂ = λ e. room₂;
          shared = λ e. absurd (let z : ◌≡◌ {A = ℕ} 0 1 = cc in omega arith);
          saved = λ e. absurd (let z : ◌≡◌ {A = ℕ} 0 1 = cc in omega arith);
          listed₁ = listed₁;
          listed₂ = listed₂;
        }

    -- rows for the steps of either file, in turn, and for the outputs of file 1
    pub in_turn : w * p.n2 ≤ rows → max_lanes * max_axis ≤ other → Enough (record { w = w; turn = true }) p rows other list
    in_turn shared saved =
        record {
          width = width;
          room₁ = room₁;
          room₂ = λ e. absurd (let z : ◌≡◌ {A = ℕ} 0 1 = cc in omega arith);
          shared = λ e. shared;
          saved = λ e. omega (arith, width-most width, saved);
          listed₁ = listed₁;
          listed₂ = listed₂;
        }
