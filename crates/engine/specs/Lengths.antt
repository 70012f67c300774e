-- The rows that the engine sets up for files of a length.
--   long_rows                   the words of the rows of long files: all steps in few lanes
--   Enough v p rows other list  in the shape v, rows of so many words, and other ones of so many, have room for the steps of the files of the plan p,
--                               and lists of so many entries for all steps of either
use Rattle.std.specs.Prelude.{true, false, ◌≡◌, ℕ, ◌*◌, ◌≤◌}
use Rattle.batches.specs.Prepared.{max_axis}
use Rattle.batches.specs.declared.Shape.{Shape}
use Rattle.file.specs.Check.{max_steps}
use Rattle.lanes.specs.Lanes.{few_lanes, Width}
use Rattle.plan.specs.declared.Plan.{Plan}

abbrev pub long_rows : ℕ
long_rows = few_lanes * max_steps

pub record Enough (v : Shape) (p : Plan) (rows other list : ℕ) : Type 0 where
  pub width : Width v.w
  pub room₁ : v.w * p.n1 ≤ rows
  pub room₂ : v.turn ≡ false → v.w * p.n2 ≤ other
  pub shared : v.turn ≡ true → v.w * p.n2 ≤ rows
  pub saved : v.turn ≡ true → v.w * max_axis ≤ other
  pub listed₁ : p.n1 ≤ list
  pub listed₂ : p.n2 ≤ list
