-- What is asked and promised of two files along w lines of a grid, a lane for each. Along a line only the last input changes.
--   last_axis p                          the axis of the last input of the plan p
--   last_low p                           the word of its lowest value
--   along_of p n w                       how a file of n steps is run along the lines of the plan p, in w lanes
--   Dependents s₁ s₂ p list₁ list₂      of each file the steps that are not listed do not depend on the last input
--   Fronts w s p inputs                 the slice has a row for each input, and every lane is on the grid
--   Agreeing w s₁ s₂ p inputs r         there are r lanes, and in the first r the outputs of the two files agree at every count of the last
--                                       input below its axis
use Rattle.std.specs.Prelude.{◌≡◌, ℕ, ◌-◌, ◌*◌, ◌<◌, ◌≤◌, List, length, slice_index}
use Rattle.dependence.specs.Dependence.{Listed, Rest}
use Rattle.evaluate.specs.Run.{word_output}
use Rattle.lanes.specs.Lanes.{LanesOnGrid}
use Rattle.line_outputs.specs.AlongLines.{Front, Last}
use Rattle.line_outputs.specs.declared.Along.{Along}
use Rattle.plan.specs.declared.Plan.{Plan}

abbrev pub last_axis : Plan → ℕ
last_axis p = slice_index p.axes (p.d - 1)

abbrev pub last_low : Plan → ℕ
last_low p = slice_index p.lows (p.d - 1)

abbrev pub along_of : Plan → ℕ → ℕ → Along
along_of p n w = record { n = n; d = p.d; u = last_axis p; low = last_low p; w = w }

pub record Dependents (s₁ s₂ : List ℕ) (p : Plan) (list₁ list₂ : List ℕ) : Type 0 where
  pub listed₁ : Listed p.n1 list₁ (length list₁)
  pub listed₂ : Listed p.n2 list₂ (length list₂)
  pub rest₁ : Rest s₁ (p.d - 1) p.n1 list₁ (length list₁)
  pub rest₂ : Rest s₂ (p.d - 1) p.n2 list₂ (length list₂)

pub record Fronts (w : ℕ) (s : List ℕ) (p : Plan) (inputs : List ℕ) : Type 0 where
  pub room : w * p.d ≤ length inputs
  pub on_grid : LanesOnGrid w s inputs

pub record Agreeing (w : ℕ) (s₁ s₂ : List ℕ) (p : Plan) (inputs : List ℕ) (r : ℕ) : Type 0 where
  pub high : r ≤ w
  pub agree :
      (l t : ℕ) (x : List ℕ) → l < r → t < last_axis p → Front w p.d inputs l x → Last p.d (last_low p) t x → word_output s₁ x ≡ word_output s₂ x
