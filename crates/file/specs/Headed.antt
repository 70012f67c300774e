-- What conditions 1 to 6 leave for the steps of a file.
--   Headed s z n   z are the sizes of s, n is its count of steps, and its length is that of its head and 9N
use Rattle.std.specs.Prelude.{List, ◌≡◌, ℕ, ◌+◌, ◌*◌, length}
use Rattle.sizes.specs.declared.Sizes.{Sizes}
use Rattle.fields.specs.File.{sizes_of, head_of, step_count}

pub record Headed (s : List ℕ) (z : Sizes) (n : ℕ) : Type 0 where
  pub sizes : z ≡ sizes_of s
  pub count : n ≡ step_count s
  pub size : length s ≡ head_of s + 9 * n
