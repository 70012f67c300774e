-- `dependence::list_dependent` meets its contract. The loop's invariant: the list has steps before step k, in increasing order, a step before k that is
-- not listed or has flag 0 does not depend on input j, and the flags from n on are as at entry.
-- Assumes nothing.
use mathlib.Core.List.{List}
use mathlib.Core.Path.{◌≡◌}
use Prim.Native.Nat.{ℕ, ◌≤◌, ◌<◌}
use lib.ListN.{length, get_or, drop}
use Rattle.dependence.specs.Dependence.{Fixed, Listed, Rest}
use Rattle.dependence.proofs.list_dependent.Given as goal

pub record Gathered (s : List ℕ) (n j : ℕ) (flags₀ list₀ flags list : List ℕ) (count k : ℕ) : Type 0 where
  pub few : count ≤ k
  pub long_flags : length flags ≡ length flags₀
  pub long_list : length list ≡ length list₀
  pub listed : Listed k list count
  pub rest : Rest s j k list count
  pub flagged : (i : ℕ) → i < k → get_or flags i 0 ≡ 0 → Fixed s j i
  pub kept : drop n flags ≡ drop n flags₀

abbrev pub invariant-loop-k : goal.invariant-loop-k
invariant-loop-k l = Gathered l.file l.n l.j l.initial.flags l.initial.list l.flags l.list l.count l.k
