-- What the transforms ask of their arguments.
--   Axes axes d n             the first d of the axes make a grid of n vectors, at least one
--   Lent axes d count m n     they make a grid of count vectors, a slice of n entries has room for them, and m is at most 64
use Rattle.std.specs.Prelude.{◌≡◌, List, ℕ, ◌≤◌, ◌<◌, take}
use Rattle.places.specs.Places.{size}
use Rattle.sizes.specs.Sizes.{max_inputs}

pub record Axes (axes : List ℕ) (d n : ℕ) : Type 0 where
  pub inputs : d ≤ max_inputs
  pub some : 0 < n
  pub counted : size (take d axes) ≡ n

pub record Lent (axes : List ℕ) (d count m n : ℕ) : Type 0 where
  pub grid : Axes axes d count
  pub room : count ≤ n
  pub bits : m ≤ 64
