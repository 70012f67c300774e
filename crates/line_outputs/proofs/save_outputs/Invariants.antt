-- `line_outputs::save_outputs` meets its contract. The loop's invariant: the rows hold the values at t - 1, and the saved rows show the outputs below t.
-- Assumes nothing.
use Rattle.std.proofs.Common.{◌≡◌, ℕ, List, length}
use Rattle.line_outputs.specs.declared.Along.{Along}
use Rattle.line_outputs.proofs.AlongLines.{Walked, SavedTo}
use Rattle.line_outputs.proofs.save_outputs.Given as goal

pub record Saving (a : Along) (s inputs₀ before saved₀ rows inputs saved : List ℕ) (t : ℕ) : Type 0 where
  pub walked : Walked a s inputs₀ before rows inputs t
  pub long_saved : length saved ≡ length saved₀
  pub outputs : SavedTo a s inputs₀ saved a.w t

abbrev pub invariant-loop-count : goal.invariant-loop-count
invariant-loop-count l = Saving l.along l.file l.initial.inputs l.initial.rows l.initial.saved l.rows l.inputs l.saved l.count
