-- `vectors::vector_at` meets its contract. The loop's invariant: the entries before i are 0, those from i on are the digits so far, and the
-- rest counts blocks of the size of the axes from i on.
-- Assumes nothing.
use Rattle.std.proofs.Common.{◌≡◌, ℕ, ◌+◌, ◌*◌, ◌<◌, ◌≤◌, List, length, get_or, take, drop}
use Rattle.places.specs.Places.{size, place_of}
use Rattle.vectors.specs.Vectors.{Arrays}
use Rattle.vectors.proofs.Digits.{Digits}
use Rattle.vectors.proofs.vector_at.Given as goal

pub record Decoded (axes lows : List ℕ) (d p : ℕ) (v : List ℕ) (rest i : ℕ) : Type 0 where
  pub within : i ≤ d
  pub long : length (take d axes) ≡ d
  pub known : Arrays lows (take d axes)
  pub vector : List ℕ
  pub digits : Digits lows (take d axes) v vector
  pub clear : (j : ℕ) → j < i → get_or vector j 0 ≡ 0
  pub place : place_of (take d axes) vector + rest * size (drop i (take d axes)) ≡ p

abbrev pub invariant-loop-i : goal.invariant-loop-i
invariant-loop-i l = Decoded l.axes l.lows l.d l.p l.v l.rest l.i
