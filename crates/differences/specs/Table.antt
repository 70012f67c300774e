-- Difference tables over a grid with the axes us, and their sums (document 01, 'Output, grid and order'; document 02, T-01; document 002,
-- definitions IV.1 and V.2, propositions 1 and 2). A function on vectors stands for a datapath's exact values; counted from the lowest values,
-- it or a list of outputs is a function of counts.
--   difference_at los ks F  the k-fold forward difference of F at the vector los: the difference for each input in turn, k_i times
--   table_at M los us F     the difference table of F on the grid with the lowest values los: cell k holds the k-fold difference at los, modulo M
--   from_lowest los F       F as a function of the counts from the lowest values los
--   mixed_difference ks F   the k-fold forward difference of such a function at the counts 0
--   choose n k             the binomial (n choose k)
--   binomials xs ks        the product of the binomials (x_i choose k_i)
--   listed us f            f at the counts of every place of the grid, in order
--   table_of M us F         its difference table: cell k holds the k-fold difference at the counts 0, modulo M
--   given us ys            the function of counts whose values, in the order of the places, are ys
--   summed M us c          the sum of the table c at every place of the grid, with the counts x: each cell times its binomials, added, modulo M
use Rattle.std.specs.Prelude.{List, [], ◌∷◌, ℕ, zero, suc, ◌+◌, ◌*◌, ◌%◌, ℤ, pos, ◌+ℤ◌, get_or}
use Rattle.integers.specs.Modulo.{remainder}
use Rattle.lists.specs.Lists.{tabulate}
use Rattle.newton.specs.Difference.{differences}
use Rattle.places.specs.Places.{size, digits_at, place_of}
use Rattle.places.specs.Vectors.{counted}

unfoldable pub difference_at : List ℤ → List ℕ → (List ℤ → ℤ) → ℤ
difference_at [] ks F = F []
difference_at (lo ∷ los) [] F = F []
difference_at (lo ∷ los) (k ∷ ks) F =
    differences k (λ (t : ℕ). difference_at los ks (λ (xs : List ℤ). F ((lo +ℤ pos t) ∷ xs))) 0

abbrev pub from_lowest : {A : Type 0} → List ℤ → (List ℤ → A) → List ℕ → A
from_lowest los F ts = F (counted los ts)

unfoldable pub mixed_difference : List ℕ → (List ℕ → ℤ) → ℤ
mixed_difference [] F = F []
mixed_difference (k ∷ ks) F = differences k (λ (t : ℕ). mixed_difference ks (λ (xs : List ℕ). F (t ∷ xs))) 0

unfoldable pub choose : ℕ → ℕ → ℕ
choose n zero = 1
choose zero (suc k) = 0
choose (suc n) (suc k) = choose n k + choose n (suc k)

unfoldable pub binomials : List ℕ → List ℕ → ℕ
binomials [] [] = 1
binomials [] (k ∷ ks) = 1
binomials (x ∷ xs) [] = 1
binomials (x ∷ xs) (k ∷ ks) = choose x k * binomials xs ks

abbrev pub listed : {A : Type 0} → List ℕ → (List ℕ → A) → List A
listed us f = tabulate (λ (p : ℕ). f (digits_at us p)) 0 (size us)

unfoldable pub table_of : ℕ → List ℕ → (List ℕ → ℤ) → List ℕ
table_of M us F = listed us (λ (k : List ℕ). remainder (mixed_difference k F) M)

unfoldable pub table_at : ℕ → List ℤ → List ℕ → (List ℤ → ℤ) → List ℕ
table_at M los us F = listed us (λ (k : List ℕ). remainder (difference_at los k F) M)

unfoldable pub given : List ℕ → List ℕ → List ℕ → ℤ
given us ys x = pos (get_or ys (place_of us x) 0)

-- the sum of cell q times the binomials of x, over the first n places q
unfoldable pub sum_below : List ℕ → List ℕ → List ℕ → ℕ → ℕ
sum_below us c x zero = 0
sum_below us c x (suc n) = sum_below us c x n + get_or c n 0 * binomials x (digits_at us n)

unfoldable pub summed : ℕ → List ℕ → List ℕ → List ℕ
summed M us c = listed us (λ (x : List ℕ). sum_below us c x (size us) % M)
