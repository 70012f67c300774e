-- What the passes leave, cut to m bits: the words' integers modulo 2^m, which are the sums for the factor 1 and the difference table for −1.
use mathlib.Core.Bool.{Bool, true, false}
use mathlib.Core.Path.{◌≡◌, refl, sym, ◌∙◌, ap}
use mathlib.Core.List.{List, ◌∷◌, map}
use Prim.Native.Nat.{ℕ, zero, suc, ◌+◌, ◌%◌, ◌^◌, ◌≤◌}
use lib.IntN.{ℤ, pos, negsuc}
use Rattle.integers.specs.Modulo.{remainder}
use Rattle.places.specs.Places.{size, digits_at}
use Rattle.differences.specs.Neighbours.{mixed}
use Rattle.differences.specs.Table.{mixed_difference, listed, table_of, given, sum_below, summed}
use Rattle.lists.specs.Lists.{tabulate}
use Rattle.differences.proofs.Listed.{listed-equal}
use Rattle.differences.proofs.Tables.{difference-mixed, sum-remainder}
use Rattle.words.specs.Words.{word}
use Rattle.words.proofs.Congruence.{word_cut}
use Rattle.rounds.specs.Passes.{factor}
use Rattle.transform.specs.Transform.{transform_of}

map-tabulate : (g : ℕ → ℕ) (f : ℕ → ℕ) (j n : ℕ) → map g (tabulate f j n) ≡ tabulate (λ (i : ℕ). g (f i)) j n
unfolding tabulate
map-tabulate g f j zero = refl
map-tabulate g f j (suc n) = ap (λ (l : List ℕ). g (f j) ∷ l) (map-tabulate g f (j + 1) n)

cut_listed :
    (m : ℕ) → m ≤ 64 → (us : List ℕ) (F : List ℕ → ℤ)
    → map (λ (x : ℕ). x % 2 ^ m) (listed us (λ (x : List ℕ). word (F x))) ≡ listed us (λ (x : List ℕ). remainder (F x) (2 ^ m))
cut_listed m h us F =
    map-tabulate (λ (x : ℕ). x % 2 ^ m) (λ (p : ℕ). word (F (digits_at us p))) 0 (size us)
    ∙ listed-equal us (λ (x : List ℕ). word (F x) % 2 ^ m) (λ (x : List ℕ). remainder (F x) (2 ^ m)) (λ x _. word_cut (F x) m h)

table-listed :
    (M : ℕ) (us : List ℕ) (F : List ℕ → ℤ) → listed us (λ (x : List ℕ). remainder (mixed (negsuc 0) x F) M) ≡ table_of M us F
unfolding table_of
table-listed M us F =
    listed-equal us (λ (x : List ℕ). remainder (mixed (negsuc 0) x F) M) (λ (x : List ℕ). remainder (mixed_difference x F) M)
    (λ x _. ap (λ (a : ℤ). remainder a M) (sym (difference-mixed x F)))

sum-listed :
    (M : ℕ) (us c : List ℕ) → listed us (λ (x : List ℕ). remainder (mixed (pos 1) x (given us c)) M) ≡ summed M us c
unfolding summed
sum-listed M us c =
    listed-equal us (λ (x : List ℕ). remainder (mixed (pos 1) x (given us c)) M) (λ (x : List ℕ). sum_below us c x (size us) % M)
    (λ x b. sym (sum-remainder M us c x b))

transform_listed :
    (sum : Bool) (M : ℕ) (us c : List ℕ)
    → listed us (λ (x : List ℕ). remainder (mixed (factor sum) x (given us c)) M) ≡ transform_of sum M us c
unfolding transform_of
transform_listed true M us c = sum-listed M us c
transform_listed false M us c = table-listed M us (given us c)

-- the passes over all axes, and then the cut
pub cut_passes :
    (m : ℕ) → m ≤ 64 → (sum : Bool) (us cells passed cut : List ℕ)
    → passed ≡ listed us (λ (x : List ℕ). word (mixed (factor sum) x (given us cells))) → cut ≡ map (λ (x : ℕ). x % 2 ^ m) passed
    → cut ≡ transform_of sum (2 ^ m) us cells
cut_passes m h sum us cells passed cut p q =
    q
    ∙ ap (map (λ (x : ℕ). x % 2 ^ m)) p
    ∙ cut_listed m h us (λ (x : List ℕ). mixed (factor sum) x (given us cells))
    ∙ transform_listed sum (2 ^ m) us cells
