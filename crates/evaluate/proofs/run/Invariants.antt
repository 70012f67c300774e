-- `evaluate::run` meets its contract. The loop's invariant: the first k scratch entries hold the values of the first k steps, the others are
-- as at entry.
-- Assumes nothing.
use Rattle.std.proofs.Common.{◌≡◌, ℕ, List, ◌++◌, map, length, drop}
use Rattle.fields.specs.Steps.{steps_of}
use Rattle.datapath.specs.Steps.{values}
use Rattle.words.specs.Words.{word, plain}
use Rattle.evaluate.proofs.run.Given as goal

pub record Held (s : List ℕ) (n : ℕ) (x scratch₀ scratch : List ℕ) (k : ℕ) : Type 0 where
  pub long : length scratch ≡ length scratch₀
  pub words : scratch ≡ map word (values (steps_of s) (plain x) k) ++ drop k scratch₀

abbrev pub invariant-loop-k : goal.invariant-loop-k
invariant-loop-k l = Held l.file l.n l.vector l.initial.scratch l.scratch l.k
