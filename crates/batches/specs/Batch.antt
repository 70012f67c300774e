-- What the functions that run a batch ask and promise.
--   Live w us p live inputs            what setting lanes asks: the slice has rows of w lanes for all inputs, there is at least one live lane and at
--                                      most w, and as many places from p on are below the axes us
--   LanesSet w lows us p live before after   of the input rows, the first `live` lanes hold the vectors from place p on of the grid with the axes us, above
--                                      the words lows, and the others are as before
--   Lowest w d lows inputs             every lane of the rows of the first d inputs holds their lowest values
--   DeadOnGrid w s live inputs         the lanes past the live ones hold vectors of the grid of the file s
--   BatchRun w s₁ s₂ p live inputs r   p + r is the first of `live` places from p on at which the outputs differ, or their end where there is
--                                      none; in every lane the input rows hold a vector of the grid
use Rattle.std.specs.Prelude.{◌≡◌, List, ℕ, ◌+◌, ◌*◌, ◌≤◌, ◌<◌, length, get_or}
use Rattle.lanes.specs.Lanes.{LanesOnGrid}
use Rattle.fields.specs.File.{sizes_of}
use Rattle.places.specs.Places.{size}
use Rattle.rows.specs.Rows.{lane}
use Rattle.ranges.specs.Search.{first}
use Rattle.sizes.specs.Sizes.{max_inputs}
use Rattle.plan.specs.Comparison.{outputs_differ}
use Rattle.vectors.specs.Vectors.{held_at, GridWord}

pub record Live (w : ℕ) (us : List ℕ) (p live : ℕ) (inputs : List ℕ) : Type 0 where
  pub room : w * max_inputs ≤ length inputs
  pub some : 1 ≤ live
  pub few : live ≤ w
  pub inside : p + live ≤ size us

pub record LanesSet (w : ℕ) (lows us : List ℕ) (p live : ℕ) (before after : List ℕ) : Type 0 where
  pub set : (i l : ℕ) → i < max_inputs → l < live → lane w after i l ≡ get_or (held_at lows us (p + l)) i 0
  pub others : (i l : ℕ) → live ≤ l → l < w → lane w after i l ≡ lane w before i l

abbrev pub Lowest : ℕ → ℕ → List ℕ → List ℕ → Type 0
Lowest w d lows inputs = (i l : ℕ) → i < d → l < w → lane w inputs i l ≡ get_or lows i 0

abbrev pub DeadOnGrid : ℕ → List ℕ → ℕ → List ℕ → Type 0
DeadOnGrid w s live inputs = (i l : ℕ) → i < (sizes_of s).d → live ≤ l → l < w → GridWord (sizes_of s) i (lane w inputs i l)

pub record BatchRun (w : ℕ) (s₁ s₂ : List ℕ) (p live : ℕ) (inputs : List ℕ) (r : ℕ) : Type 0 where
  pub found : p + r ≡ first (outputs_differ s₁ s₂) p live
  pub on_grid : LanesOnGrid w s₁ inputs
