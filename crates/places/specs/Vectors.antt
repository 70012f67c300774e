-- The vectors of a grid and their order (document 01, 'Output, grid and order'; document 02, T-01). A vector is a list of integers, first input
-- first. Of each input the grid has the u consecutive values from its lowest up.
--   counted los ts      the integers that are the counts ts above the lowest values los
--   vector_at los us p   the vector at place p of the grid with the lowest values los and the axes us: the digits of p, counted from there
--   OnAxes los us x     the vector x lies on that grid: it has a value for each input, and each is one of those u values
--   Before x y          dictionary order by value: x is lower than y at the first input where they differ
use Rattle.std.specs.Prelude.{◌≡◌, ◌⊎◌, List, [], ◌∷◌, ℕ, ℤ, pos, ◌+ℤ◌, ◌≤ℤ◌, ◌<ℤ◌}
use Rattle.places.specs.Places.{digits_at}

unfoldable pub counted : List ℤ → List ℕ → List ℤ
counted [] ts = []
counted (lo ∷ los) [] = []
counted (lo ∷ los) (t ∷ ts) = (lo +ℤ pos t) ∷ counted los ts

unfoldable pub vector_at : List ℤ → List ℕ → ℕ → List ℤ
vector_at los us p = counted los (digits_at us p)

abbrev pub OnAxes : List ℤ → List ℕ → List ℤ → Type 0
OnAxes [] [] [] = Unit {0}
OnAxes [] [] (v ∷ x) = ⊥
OnAxes [] (u ∷ us) x = ⊥
OnAxes (lo ∷ los) [] x = ⊥
OnAxes (lo ∷ los) (u ∷ us) [] = ⊥
OnAxes (lo ∷ los) (u ∷ us) (v ∷ x) = ((lo ≤ℤ v) × (v <ℤ (lo +ℤ pos u))) × OnAxes los us x

abbrev pub Before : List ℤ → List ℤ → Type 0
Before [] [] = ⊥
Before [] (w ∷ y) = ⊥
Before (v ∷ x) [] = ⊥
Before (v ∷ x) (w ∷ y) = (v <ℤ w) ⊎ ((v ≡ w) × Before x y)
