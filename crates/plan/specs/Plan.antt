-- What is read of two comparable files once a call.
--   plan_of s₁ s₂      N of both files, m, d, and the grid on which they are compared: its axes and the words of the lowest values, with 0 past the
--                     last input, and its size
--   Planned s₁ s₂ p   the files are comparable, and p is their plan
use Rattle.std.specs.Prelude.{List, ◌≡◌, ℕ}
use Rattle.fields.specs.File.{sizes_of, step_count}
use Rattle.grid.specs.Grid.{grid_of}
use Rattle.sizes.specs.Padded.{padded}
use Rattle.vectors.specs.Vectors.{low_words}
use Rattle.plan.specs.Comparison.{Comparable}
use Rattle.plan.specs.declared.Plan.{Plan}

unfoldable pub plan_of : List ℕ → List ℕ → Plan
plan_of s₁ s₂ =
    let z = sizes_of s₁ in
    record {
      n1 = step_count s₁;
      n2 = step_count s₂;
      m = z.m;
      d = z.d;
      axes = (grid_of z).axes;
      lows = padded (low_words z);
      size = (grid_of z).size;
    }

pub record Planned (s₁ s₂ : List ℕ) (p : Plan) : Type 0 where
  pub files : Comparable s₁ s₂
  pub plan : p ≡ plan_of s₁ s₂
