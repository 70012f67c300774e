-- Two datapaths of the same sizes side by side: output word length m, inputs fs, steps ts₁ and ts₂.
--   Agree            the outputs at the vector x are equal
--   differs_at        a test: the outputs differ at the vector at place p of the grid with the lowest values los and the axes us
--   first_difference  the first place of that grid at which they differ, or the grid's size where there is none
--   IsFirst v        v is the first of all full-width vectors, in dictionary order, at which the outputs differ
use Rattle.std.specs.Prelude.{◌≡◌, Bool, not, List, ℕ, eqb, ℤ}
use Rattle.formats.specs.Formats.{FullWidth}
use Rattle.formats.specs.declared.Format.{Format}
use Rattle.places.specs.Places.{size}
use Rattle.places.specs.Vectors.{vector_at, Before}
use Rattle.ranges.specs.Search.{first}
use Rattle.datapath.specs.Steps.{output}
use Rattle.datapath.specs.declared.Step.{Step}

abbrev pub Agree : ℕ → List Step → List Step → List ℤ → Type 0
Agree m ts₁ ts₂ x = output m ts₁ x ≡ output m ts₂ x

unfoldable pub differs_at : ℕ → List ℤ → List ℕ → List Step → List Step → ℕ → Bool
differs_at m los us ts₁ ts₂ p = not (eqb (output m ts₁ (vector_at los us p)) (output m ts₂ (vector_at los us p)))

unfoldable pub first_difference : ℕ → List ℤ → List ℕ → List Step → List Step → ℕ
first_difference m los us ts₁ ts₂ = first (differs_at m los us ts₁ ts₂) 0 (size us)

pub record IsFirst (m : ℕ) (fs : List Format) (ts₁ ts₂ : List Step) (v : List ℤ) : Type 0 where
  pub full_width : FullWidth fs v
  pub differs : ¬ Agree m ts₁ ts₂ v
  pub earliest : (w : List ℤ) → FullWidth fs w → ¬ Agree m ts₁ ts₂ w → ¬ Before w v
