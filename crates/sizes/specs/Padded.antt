-- Lists with an entry for each of the inputs that a file may have: width bytes, the words of a vector, the axes of a grid.
--   padded v   the list v, with zeros for the inputs that the file doesn't have
use Rattle.std.specs.Prelude.{List, ◌++◌, ℕ, ◌-◌, length, replicate}
use Rattle.sizes.specs.Sizes.{max_inputs}

abbrev pub padded : List ℕ → List ℕ
padded v = v ++ replicate (max_inputs - length v) 0
