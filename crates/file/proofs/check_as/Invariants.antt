-- `file::check_as` meets its contract. The loop's invariant: the first faulty step of all is the first from step k on.
-- Assumes nothing.
use mathlib.Core.Path.{◌≡◌}
use Prim.Native.Nat.{◌-◌}
use Rattle.ranges.specs.Search.{first}
use Rattle.fields.specs.File.{step_count}
use Rattle.file.specs.Check.{faulty_at, faulty_step}
use Rattle.file.proofs.check_as.Given as goal

abbrev pub invariant-loop-k : goal.invariant-loop-k
invariant-loop-k l = faulty_step l.file ≡ first (faulty_at l.file) l.k (step_count l.file - l.k)
