-- What comparing over a span promises.
--   FirstLine p u r    line r is the first of u places each that starts at place p or after it
--   LinesFrom p u r    line r is the first or the second of these
use Rattle.std.specs.Prelude.{ℕ, ◌+◌, ◌*◌, ◌≤◌, ◌<◌}

pub record FirstLine (p u r : ℕ) : Type 0 where
  pub low : p ≤ r * u
  pub high : r * u < p + u

pub record LinesFrom (p u r : ℕ) : Type 0 where
  pub low : p ≤ r * u
  pub high : r * u < p + 2 * u
