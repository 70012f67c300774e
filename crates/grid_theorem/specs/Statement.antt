-- The grid theorem. It is proved in proofs/Grid.
--   GridTheorem   what OnGrid says, for every output word length m, all inputs and all steps
--   OnGrid        of two datapaths and their grid, which has the values of each input from its lowest up, as many as its axis says:
--     settled   the outputs agree at every full-width vector exactly where they agree at every vector of the grid
--     none      no place of the grid differs: they agree at every full-width vector
--     some      some place does: the vector at the first of these lies on the grid, and is the first of all full-width vectors at which
--               the outputs differ
use Rattle.std.specs.Prelude.{◌≡◌, ◌↔◌, List, ℕ, ◌<◌, ℤ}
use Rattle.bound.specs.Axes.{lows, axes}
use Rattle.formats.specs.Formats.{FullWidth}
use Rattle.formats.specs.declared.Format.{Format}
use Rattle.places.specs.Places.{size}
use Rattle.places.specs.Vectors.{vector_at, OnAxes}
use Rattle.datapath.specs.declared.Step.{Step}
use Rattle.grid_theorem.specs.Comparison.{Agree, first_difference, IsFirst}

pub record OnGrid (m : ℕ) (fs : List Format) (ts₁ ts₂ : List Step) : Type 0 where
  pub settled :
      ((x : List ℤ) → FullWidth fs x → Agree m ts₁ ts₂ x) ↔
      ((x : List ℤ) → OnAxes (lows fs) (axes m fs) x → Agree m ts₁ ts₂ x)
  pub none :
      first_difference m (lows fs) (axes m fs) ts₁ ts₂ ≡ size (axes m fs) →
      (x : List ℤ) →
      FullWidth fs x →
      Agree m ts₁ ts₂ x
  pub some :
      first_difference m (lows fs) (axes m fs) ts₁ ts₂ < size (axes m fs) →
      let v = vector_at (lows fs) (axes m fs) (first_difference m (lows fs) (axes m fs) ts₁ ts₂) in
      OnAxes (lows fs) (axes m fs) v × IsFirst m fs ts₁ ts₂ v

abbrev pub GridTheorem : Type 0
GridTheorem = (m : ℕ) (fs : List Format) (ts₁ ts₂ : List Step) → OnGrid m fs ts₁ ts₂
