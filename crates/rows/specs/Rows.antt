-- Rows of w lanes in a list of words: row k is the w entries from w · k on, and its lane l the entry w · k + l.
--   max_lanes                     the most lanes of a row
--   lane w ws k l                lane l of row k
--   HasRow w ws k                row k lies within the list
--   OthersKept w before after k  every row but row k is as before
--   Written w before after k f   only row k was written: its lane l is f l, and every other row is as before
--   Zipped P w before after k a b  only row k was written: P holds of lane l of the rows a and b as they were, and of lane l of row k
--   Operands w ws k a b          rows a and b stand before row k, and row k is a row of at most max_lanes lanes
use Rattle.std.specs.Prelude.{◌≡◌, List, ℕ, ◌+◌, ◌*◌, ◌≤◌, ◌<◌, length, get_or}

abbrev pub max_lanes : ℕ
max_lanes = 16

abbrev pub lane : ℕ → List ℕ → ℕ → ℕ → ℕ
lane w ws k l = get_or ws (w * k + l) 0

abbrev pub HasRow : ℕ → List ℕ → ℕ → Type 0
HasRow w ws k = w * k + w ≤ length ws

abbrev pub OthersKept : ℕ → List ℕ → List ℕ → ℕ → Type 0
OthersKept w before after k = (i l : ℕ) → l < w → ¬ (i ≡ k) → lane w after i l ≡ lane w before i l

pub record Written (w : ℕ) (before after : List ℕ) (k : ℕ) (f : ℕ → ℕ) : Type 0 where
  pub row : (l : ℕ) → l < w → lane w after k l ≡ f l
  pub others : OthersKept w before after k

pub record Operands (w : ℕ) (ws : List ℕ) (k a b : ℕ) : Type 0 where
  pub left : a < k
  pub right : b < k
  pub lanes : w ≤ max_lanes
  pub room : HasRow w ws k

pub record Zipped (P : ℕ → ℕ → ℕ → Type 0) (w : ℕ) (before after : List ℕ) (k a b : ℕ) : Type 0 where
  pub row : (l : ℕ) → l < w → P (lane w before a l) (lane w before b l) (lane w after k l)
  pub others : OthersKept w before after k
