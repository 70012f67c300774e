-- `line_outputs::matching_lanes` meets its contract. The loop's invariant: the rows hold the values at t - 1, and in the matching lanes the saved rows show
-- the outputs below t.
-- Assumes nothing.
use Rattle.std.proofs.Common.{ℕ, ◌≤◌, List}
use Rattle.line_outputs.specs.declared.Along.{Along}
use Rattle.line_outputs.proofs.AlongLines.{Walked, SavedTo}
use Rattle.line_outputs.proofs.matching_lanes.Given as goal

pub record Matched (a : Along) (s inputs₀ before rows inputs saved : List ℕ) (r t : ℕ) : Type 0 where
  pub walked : Walked a s inputs₀ before rows inputs t
  pub high : r ≤ a.w
  pub shown : SavedTo a s inputs₀ saved r t

abbrev pub invariant-loop-at : goal.invariant-loop-at
invariant-loop-at l = Matched l.along l.file l.initial.inputs l.initial.rows l.rows l.inputs l.saved l.matching l.at
