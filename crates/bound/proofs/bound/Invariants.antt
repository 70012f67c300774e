-- `bound::bound` meets its contract. The loop's invariant: what is added up and what is still to come make what algorithm 1 adds to m, and
-- what remains is below 2^v − 1, for the last v. Assumes nothing.
use mathlib.Core.Path.{◌≡◌}
use Prim.Native.Nat.{ℕ, ◌+◌, ◌-◌, ◌^◌, ◌≤◌, ◌<◌}
use Rattle.bound.specs.Bound.{log2, greedy}
use Rattle.bound.proofs.bound.Given as goal

-- v is the last one, or one more than the logarithm
pub record Adding (m v rem n : ℕ) : Type 0 where
  pub low : 1 ≤ m
  pub high : m ≤ 64
  pub above : 1 ≤ v
  pub adds : n + greedy (v - 1) rem ≡ greedy (log2 (1 + m)) m
  pub remains : rem + 1 < 2 ^ v
  pub few : v ≤ 7

abbrev pub invariant-loop-v : goal.invariant-loop-v
invariant-loop-v l = Adding l.m l.v l.rem l.n
