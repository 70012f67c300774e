-- An accepted call from any position is the kind that the places from there on call for: the first of these that differs is the one that the search
-- finds, and where none does the search ends at its end. Assumes nothing.
use mathlib.Core.Path.{refl, sym}
use Prim.Native.Nat.{◌-◌, min}
use native.Mathlib.Omega.{arith}
use Rattle.engine.specs.Engine.{outputs_differ}
use Rattle.fields.specs.File.{sizes_of}
use Rattle.grid.specs.Grid.{grid_size}
use Rattle.ranges.proofs.Search.{first_unique, first_absent}
use Rattle.sessions.specs.Position.{FromAnyPosition}
use Rattle.sessions.proofs.Cases.{advanced-differs, advanced-equivalent, advanced-spent}

pub from_any_position : FromAnyPosition
from_any_position s₁ s₂ σ B inside =
    record {
      differs = λ q low below within here none.
          sym
          (advanced-differs s₁ s₂ σ B (grid_size (sizes_of s₁)) (min B (grid_size (sizes_of s₁) - σ.position)) q refl refl
          (sym (first_unique (outputs_differ s₁ s₂) σ.position (min B (grid_size (sizes_of s₁) - σ.position)) q low (omega arith) here none)) (omega arith));
      equivalent = λ none reach.
          sym
          (advanced-equivalent s₁ s₂ σ B (grid_size (sizes_of s₁)) (min B (grid_size (sizes_of s₁) - σ.position)) _ refl refl
          (sym (first_absent (outputs_differ s₁ s₂) σ.position (min B (grid_size (sizes_of s₁) - σ.position)) (λ i low h. none i low (omega arith)))) (omega arith) inside
          (omega arith));
      spent = λ none more.
          sym
          (advanced-spent s₁ s₂ σ B (grid_size (sizes_of s₁)) (min B (grid_size (sizes_of s₁) - σ.position)) _ refl refl
          (sym (first_absent (outputs_differ s₁ s₂) σ.position (min B (grid_size (sizes_of s₁) - σ.position)) (λ i low h. none i low (omega arith)))) (omega arith) inside
          (omega arith));
    }
