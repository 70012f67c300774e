-- `engine::in_lanes` meets its contract: the rows that it sets up have room for the files' steps.
-- Assumes nothing.
use native.Mathlib.Omega.{arith}
use Rattle.engine.proofs.in_lanes.Goals as goal

pub by_lines-requires : goal.by_lines-requires
by_lines-requires g c =
    let k = c.requires.within in
    let h = c.requires.enough in
    record {
      prepared = record {
        width = h.width;
        planned = k.planned;
        room₁ = omega (arith, h.room₁);
        room₂ = λ e. omega (arith, h.room₂ e);
        shared = λ e. omega (arith, h.shared e);
        saved = λ e. omega (arith, h.saved e);
      };
      lists = record { room₁ = omega (arith, h.listed₁); room₂ = omega (arith, h.listed₂); flagged = k.room };
      from_lt_end = (k.some, k.inside);
    }
