-- `conclusion::conclude` meets its contract. The invariant: the calls made so far have led to the current session, and the stop is not
-- reached. The measure is what is left to the stop.
use mathlib.Core.Path.{◌≡◌}
use Prim.Native.Nat.{◌-◌}
use lib.ListN.{length}
use Rattle.sessions.specs.Demand3.{stop}
use Rattle.conclusion.proofs.Trail.{Trail}
use Rattle.conclusion.proofs.Turn.{Under}
use Rattle.conclusion.proofs.conclude.Given as goal

abbrev pub invariant-loop-current : goal.invariant-loop-current
invariant-loop-current l = Under l.file1 l.file2 l.run l.current × Trail l.file1 l.file2 l.run l.current × (length l.scratch ≡ length l.initial.scratch)

abbrev pub decreases-loop-current : goal.decreases-loop-current
decreases-loop-current l = stop l.file1 l.file2 - l.run
