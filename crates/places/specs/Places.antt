-- Places on a grid and their digits, which count each input's values from its lowest up (document 01, 'Output, grid and order'). The axes are
-- given as a list, first input first.
--   Below us x       x has a count for each axis, and each is below its axis
--   size us          how many such lists there are: the product of the axes
--   digits_at us p    the mixed-radix digits of place p, the first input weighing most
--   place_of us x     the place with the digits x
use Rattle.std.specs.Prelude.{List, [], ◌∷◌, ℕ, ◌+◌, ◌*◌, ◌/◌, ◌%◌, ◌<◌}

abbrev pub Below : List ℕ → List ℕ → Type 0
Below [] [] = Unit {0}
Below [] (x ∷ xs) = ⊥
Below (u ∷ us) [] = ⊥
Below (u ∷ us) (x ∷ xs) = (x < u) × Below us xs

unfoldable pub size : List ℕ → ℕ
size [] = 1
size (u ∷ us) = u * size us

unfoldable pub digits_at : List ℕ → ℕ → List ℕ
digits_at [] p = []
digits_at (u ∷ us) p = p / size us ∷ digits_at us (p % size us)

unfoldable pub place_of : List ℕ → List ℕ → ℕ
place_of [] x = 0
place_of (u ∷ us) [] = 0
place_of (u ∷ us) (x ∷ xs) = x * size us + place_of us xs
