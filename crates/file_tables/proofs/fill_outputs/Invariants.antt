-- `file_tables::fill_outputs` meets its contract. The loop's invariant: v holds the vector at this place while it is before the end, the outputs at
-- the places passed are written, and the scratch entries past the first n are as at entry.
-- Assumes nothing.
use mathlib.Core.Path.{◌≡◌}
use mathlib.Core.List.{List}
use Prim.Native.Nat.{ℕ, ◌<◌}
use lib.ListN.{length, take}
use Rattle.sizes.specs.Sizes.{max_inputs}
use Rattle.vectors.specs.Vectors.{held_at}
use Rattle.file_tables.specs.FileTables.{grid_outputs}
use Rattle.slices.specs.Slices.{KeptPast}
use Rattle.slices.proofs.Copied.{Copied}
use Rattle.file_tables.proofs.fill_outputs.Given as goal

pub record Filled (s : List ℕ) (n : ℕ) (axes lows : List ℕ) (d count : ℕ) (scratch₀ cells₀ scratch cells v : List ℕ) (p : ℕ) : Type 0 where
  pub written : Copied (grid_outputs s) cells₀ count cells p
  pub long : length scratch ≡ length scratch₀
  pub kept : KeptPast n scratch₀ scratch
  pub full : length v ≡ max_inputs
  pub vector : p < count → v ≡ held_at lows (take d axes) p

abbrev pub invariant-loop-y : goal.invariant-loop-y
invariant-loop-y l = Filled l.file l.n l.axes l.lows l.d l.count l.initial.scratch l.initial.y-items l.scratch l.y-items l.v l.y-index
