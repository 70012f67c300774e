-- The statements of specs/Statement.antt on tables and sums. Both are `mixed`: differences with the factor −1, sums with the factor 1. These
-- undo one another, and the remainders taken on the way do not matter modulo M.
use mathlib.Core.Path.{◌≡◌, refl, sym, ◌∙◌, ap, fun_ext}
use mathlib.Core.List.{List, [], ◌∷◌}
use Prim.Native.Nat.{ℕ, ◌%◌, ◌<◌}
use native.Mathlib.Nat.{mod-eq_of_lt}
use native.Mathlib.Omega.{arith}
use lib.IntN.{ℤ, pos, negsuc}
use lib.ListN.{get_or}
use Rattle.integers.specs.Modulo.{remainder}
use Rattle.integers.proofs.Remainder.{remainder_pos, remainder-most}
use Rattle.places.specs.Places.{Below, size, digits_at, place_of}
use Rattle.places.proofs.Places.{one_to_one}
use Rattle.differences.specs.Neighbours.{combined, mixed}
use Rattle.differences.specs.Table.{mixed_difference, listed, table_of, given, sum_below, summed}
use Rattle.differences.specs.Statement.{Cells, SumOfTable, SumOfDifferences, DifferencesOfSum}
use Rattle.differences.proofs.Neighbours.{mixed_undo, mixed-remainder}
use Rattle.differences.proofs.Binomials.{differences-combined}
use Rattle.differences.proofs.Sums.{sum-mixed}
use Rattle.differences.proofs.Listed.{listed-equal, given-listed}
use Rattle.lists.proofs.Tabulate.{tabulate_unique}

pub difference-mixed : (ks : List ℕ) (F : List ℕ → ℤ) → mixed_difference ks F ≡ mixed (negsuc 0) ks F
unfolding mixed_difference mixed
difference-mixed [] F = refl
difference-mixed (k ∷ ks) F =
    ap (λ (g : ℕ → ℤ). g 0) (differences-combined k (λ (t : ℕ). mixed_difference ks (λ (xs : List ℕ). F (t ∷ xs))))
    ∙ ap (λ (h : ℕ → ℤ). combined (negsuc 0) k h 0) (fun_ext λ t. difference-mixed ks (λ (xs : List ℕ). F (t ∷ xs)))

remainder-twice : (a : ℤ) (M : ℕ) → 0 < M → remainder (pos (remainder a M)) M ≡ remainder a M
remainder-twice a M z = remainder_pos (remainder a M) M ∙ mod-eq_of_lt (remainder-most a M z)

-- the sum at x, as a remainder
pub sum-remainder :
    (M : ℕ) (us c x : List ℕ) → Below us x → sum_below us c x (size us) % M ≡ remainder (mixed (pos 1) x (given us c)) M
sum-remainder M us c x b =
    sym (remainder_pos (sum_below us c x (size us)) M) ∙ ap (λ (a : ℤ). remainder a M) (sum-mixed us c x b)

sum-table-at :
    (M : ℕ) → 0 < M → (us : List ℕ) (F : List ℕ → ℤ) (x : List ℕ) → Below us x
    → sum_below us (table_of M us F) x (size us) % M ≡ remainder (F x) M
unfolding table_of
sum-table-at M z us F x b =
    sum-remainder M us (table_of M us F) x b
    ∙ mixed-remainder M z (pos 1) us x (given us (table_of M us F)) (λ (k : List ℕ). mixed (negsuc 0) k F) b
    (λ k c.
    ap (λ (a : ℤ). remainder a M) (given-listed us (λ (k : List ℕ). remainder (mixed_difference k F) M) k c)
    ∙ remainder-twice (mixed_difference k F) M z
    ∙ ap (λ (a : ℤ). remainder a M) (difference-mixed k F))
    ∙ ap (λ (a : ℤ). remainder a M) (mixed_undo (pos 1) x F)

table-sum-at :
    (M : ℕ) → 0 < M → (us c k : List ℕ) → Below us k
    → remainder (mixed_difference k (given us (summed M us c))) M ≡ remainder (given us c k) M
unfolding summed
table-sum-at M z us c k b =
    ap (λ (a : ℤ). remainder a M) (difference-mixed k (given us (summed M us c)))
    ∙ mixed-remainder M z (negsuc 0) us k (given us (summed M us c)) (λ (x : List ℕ). mixed (pos 1) x (given us c)) b
    (λ x d.
    ap (λ (a : ℤ). remainder a M)
    (given-listed us (λ (x : List ℕ). sum_below us c x (size us) % M) x d ∙ ap pos (sum-remainder M us c x d))
    ∙ remainder-twice (mixed (pos 1) x (given us c)) M z)
    ∙ ap (λ (a : ℤ). remainder a M) (mixed_undo (negsuc 0) k (given us c))

-- a list of cells is what its cells at the vectors of the grid are, modulo M
cells-listed :
    (M : ℕ) (us ys : List ℕ) → Cells M us ys → (f : List ℕ → ℕ)
    → ((x : List ℕ) → 0 < M → Below us x → f x ≡ remainder (given us ys x) M) → listed us f ≡ ys
unfolding given
cells-listed M us ys cells f h =
    sym
    (tabulate_unique (λ (p : ℕ). f (digits_at us p)) (size us) 0 ys cells.full
    (λ p l.
    let s = cells.small p l in
    sym
    (h (digits_at us p) (omega arith) ((one_to_one us).below p l)
    ∙ remainder_pos (get_or ys (place_of us (digits_at us p)) 0) M
    ∙ rw ((one_to_one us).placed p l) (mod-eq_of_lt s))))

pub sum_of_table : SumOfTable
unfolding summed
sum_of_table M z us F =
    listed-equal us (λ (x : List ℕ). sum_below us (table_of M us F) x (size us) % M) (λ (x : List ℕ). remainder (F x) M)
    (sum-table-at M z us F)

pub sum_of_differences : SumOfDifferences
unfolding summed
sum_of_differences M us ys cells =
    cells-listed M us ys cells (λ (x : List ℕ). sum_below us (table_of M us (given us ys)) x (size us) % M)
    (λ x z b. sum-table-at M z us (given us ys) x b)

pub differences_of_sum : DifferencesOfSum
unfolding table_of
differences_of_sum M us c cells =
    cells-listed M us c cells (λ (k : List ℕ). remainder (mixed_difference k (given us (summed M us c))) M)
    (λ k z b. table-sum-at M z us c k b)
