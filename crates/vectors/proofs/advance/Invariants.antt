-- `vectors::advance` meets its contract. The loop's invariant: the entries from i on went to 0 from their last values, and the place is
-- one block of the size of the axes from i on short of the next.
-- Assumes nothing.
use Rattle.std.proofs.Common.{◌≡◌, ℕ, ◌+◌, ◌≤◌, List, length, take, drop}
use Rattle.places.specs.Places.{size, place_of}
use Rattle.vectors.specs.Vectors.{Arrays, Placed}
use Rattle.vectors.proofs.Digits.{Digits}
use Rattle.vectors.proofs.advance.Given as goal

pub record Carried (axes lows : List ℕ) (d : ℕ) (v₀ v : List ℕ) (i : ℕ) : Type 0 where
  pub within : i ≤ d
  pub long : length (take d axes) ≡ d
  pub known : Arrays lows (take d axes)
  pub first : Placed lows (take d axes) v₀
  pub vector : List ℕ
  pub digits : Digits lows (take d axes) v vector
  pub place : place_of (take d axes) vector + size (drop i (take d axes)) ≡ first.place + 1

abbrev pub invariant-loop-i : goal.invariant-loop-i
invariant-loop-i l = (length l.v ≡ length l.initial.v) × Carried l.axes l.lows l.d l.initial.v l.v l.i
