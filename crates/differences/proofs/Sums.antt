-- The sum of a table at a vector x, cell by cell in the order of the places, is the mixed sum of neighbours, x_i times for input i.
-- The places of a grid with a first axis are layers, each a grid of the later axes, so the sum over all places is one over the layers: for layer k
-- the binomial (x_1 choose k) times the sum of the layer. By induction on the axes.
use mathlib.Core.Path.{◌≡◌, ◌∙◌, ap, fun_ext}
use mathlib.Core.List.{List, [], ◌∷◌}
use Prim.Native.Nat.{ℕ, zero, suc, ◌+◌, ◌*◌, ◌≤◌}
use native.Mathlib.Nat.{add-zero, add-suc, zero-mul, suc-mul}
use native.Mathlib.Omega.{arith}
use lib.Arith.{digits_div, digits_mod}
use lib.IntN.{ℤ, pos, ◌+ℤ◌, ◌*ℤ◌}
use lib.ListN.{drop}
use lib.Seq.{get_or-drop}
use Rattle.places.specs.Places.{Below, size, digits_at, place_of}
use Rattle.differences.specs.Neighbours.{mixed}
use Rattle.differences.specs.Statement.{total}
use Rattle.differences.specs.Table.{choose, binomials, given, sum_below}
use Rattle.differences.proofs.Binomials.{total-equal, combined_binomial}

-- the first j places of layer k
sum-layer :
    (u : ℕ) (us c : List ℕ) (x : ℕ) (xs : List ℕ) (k j : ℕ) → j ≤ size us
    → sum_below (u ∷ us) c (x ∷ xs) (k * size us + j)
    ≡ sum_below (u ∷ us) c (x ∷ xs) (k * size us) + choose x k * sum_below us (drop (k * size us) c) xs j
unfolding sum_below binomials digits_at
sum-layer u us c x xs k zero l = rw add-zero (omega arith)
sum-layer u us c x xs k (suc j) l =
    ap (sum_below (u ∷ us) c (x ∷ xs)) (add-suc (k * size us) j)
    ∙ rw (digits_div k l, digits_mod k l, get_or-drop (k * size us) c j 0) (omega (arith, sum-layer u us c x xs k j (omega arith)))

sum_layers :
    (u : ℕ) (us c : List ℕ) (x : ℕ) (xs : List ℕ) (n : ℕ)
    → pos (sum_below (u ∷ us) c (x ∷ xs) (n * size us))
    ≡ total (λ (k : ℕ). pos (choose x k) *ℤ pos (sum_below us (drop (k * size us) c) xs (size us))) n
unfolding sum_below total
sum_layers u us c x xs zero = ap (λ (q : ℕ). pos (sum_below (u ∷ us) c (x ∷ xs) q)) (zero-mul (size us))
sum_layers u us c x xs (suc n) =
    ap (λ (q : ℕ). pos (sum_below (u ∷ us) c (x ∷ xs) q)) (suc-mul n (size us))
    ∙ ap pos (sum-layer u us c x xs n (size us) (omega arith))
    ∙ ap (λ (a : ℤ). a +ℤ pos (choose x n) *ℤ pos (sum_below us (drop (n * size us) c) xs (size us))) (sum_layers u us c x xs n)

pub sum-mixed :
    (us c x : List ℕ) → Below us x → pos (sum_below us c x (size us)) ≡ mixed (pos 1) x (given us c)
unfolding sum_below binomials size digits_at mixed given place_of
sum-mixed [] c [] b = ap pos (omega arith)
sum-mixed [] c (x ∷ xs) b = absurd b
sum-mixed (u ∷ us) c [] b = absurd b
sum-mixed (u ∷ us) c (x ∷ xs) b =
    sum_layers u us c x xs u
    ∙ total-equal u _ _
    (λ k _.
    ap (λ (a : ℤ). pos (choose x k) *ℤ a)
    (sum-mixed us (drop (k * size us) c) xs b.1
    ∙ ap (mixed (pos 1) xs) (fun_ext λ ys. ap pos (get_or-drop (k * size us) c (place_of us ys) 0))))
    ∙ combined_binomial x u (λ (k : ℕ). mixed (pos 1) xs (λ (ys : List ℕ). given (u ∷ us) c (k ∷ ys))) b.0
