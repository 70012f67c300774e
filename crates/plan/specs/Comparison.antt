-- Two files compared over the grid.
--   outputs_differ s₁ s₂ p   a test: the files' outputs differ at the grid's vector at place p
--   larger_count s₁ s₂       the larger N of two files
--   Comparable s₁ s₂        both files are accepted, and have the same sizes
--   Found s₁ s₂ from end r  r is the first place from `from` to before `end` at which the outputs differ, or `end` where there is none
--   Searched s₁ s₂ n from end before r after
--                           what a search with a scratch slice promises:
--       found     the place
--       kept      past the first n entries the scratch slice is as before
use Rattle.std.specs.Prelude.{◌≡◌, Bool, List, ℕ, ◌-◌, max}
use Rattle.file.specs.Accepted.{Accepted}
use Rattle.fields.specs.File.{sizes_of, step_count}
use Rattle.fields.specs.Steps.{steps_of}
use Rattle.grid.specs.Grid.{axes_of, lows_of}
use Rattle.ranges.specs.Search.{first}
use Rattle.slices.specs.Slices.{KeptPast}
use Rattle.grid_theorem.specs.Comparison.{differs_at}

unfoldable pub outputs_differ : List ℕ → List ℕ → ℕ → Bool
outputs_differ s₁ s₂ = differs_at (sizes_of s₁).m (lows_of (sizes_of s₁)) (axes_of (sizes_of s₁)) (steps_of s₁) (steps_of s₂)

abbrev pub larger_count : List ℕ → List ℕ → ℕ
larger_count s₁ s₂ = max (step_count s₁) (step_count s₂)

pub record Comparable (s₁ s₂ : List ℕ) : Type 0 where
  pub sound₁ : Accepted s₁
  pub sound₂ : Accepted s₂
  pub same : sizes_of s₁ ≡ sizes_of s₂

abbrev pub Found : List ℕ → List ℕ → ℕ → ℕ → ℕ → Type 0
Found s₁ s₂ from end r = r ≡ first (outputs_differ s₁ s₂) from (end - from)

pub record Searched (s₁ s₂ : List ℕ) (n from end : ℕ) (before : List ℕ) (r : ℕ) (after : List ℕ) : Type 0 where
  pub found : Found s₁ s₂ from end r
  pub kept : KeptPast n before after
