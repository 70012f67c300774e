-- Single lanes of rows of w lanes.
--   Column w before after l v  lane l of the first max_inputs rows has the entries of v, and every other lane is as before
--   unequal w m v a u b l      a test: lane l of row a of v and of row b of u differ modulo 2^m
use Rattle.std.specs.Prelude.{◌≡◌, Bool, not, List, ℕ, ◌%◌, ◌^◌, ◌<◌, eqb, get_or}
use Rattle.rows.specs.Rows.{lane}
use Rattle.sizes.specs.Sizes.{max_inputs}

pub record Column (w : ℕ) (before after : List ℕ) (l : ℕ) (v : List ℕ) : Type 0 where
  pub set : (i : ℕ) → i < max_inputs → lane w after i l ≡ get_or v i 0
  pub others : (i k : ℕ) → k < w → ¬ (k ≡ l) → lane w after i k ≡ lane w before i k

unfoldable pub unequal : ℕ → ℕ → List ℕ → ℕ → List ℕ → ℕ → ℕ → Bool
unequal w m v a u b l = not (eqb (lane w v a l % 2 ^ m) (lane w u b l % 2 ^ m))
