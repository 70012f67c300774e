-- Differences at the lowest values are differences at the counts 0, of the function of counts from there, and the first cell of a table is no
-- difference. By recursion on the inputs.
-- Assumes nothing.
use mathlib.Core.Path.{◌≡◌, refl, sym, ◌∙◌, ap}
use mathlib.Core.List.{List, [], ◌∷◌}
use Prim.Native.Nat.{ℕ}
use native.Mathlib.Nat.{zero-div, zero-mod}
use native.Mathlib.Omega.{arith}
use lib.IntN.{ℤ, pos, ◌+ℤ◌, +ℤ_idr}
use lib.ListN.{length}
use Rattle.integers.specs.Modulo.{remainder}
use Rattle.newton.specs.Difference.{differences}
use Rattle.lists.proofs.Tabulate.{get_d_tabulate}
use Rattle.places.specs.Places.{size, digits_at}
use Rattle.places.specs.Vectors.{counted}
use Rattle.places.proofs.LastAxis.{length-below}
use Rattle.differences.specs.Statement.{AtLowest, FirstCell}
use Rattle.differences.specs.Table.{difference_at, from_lowest, mixed_difference, table_at, table_of}
use Rattle.differences.proofs.Listed.{listed-equal}

difference-lowest : (los : List ℤ) (ks : List ℕ) (F : List ℤ → ℤ) → length los ≡ length ks → difference_at los ks F ≡ mixed_difference ks (from_lowest los F)
unfolding difference_at mixed_difference counted
difference-lowest [] [] F e = refl
difference-lowest [] (k ∷ ks) F e = absurd (omega arith)
difference-lowest (lo ∷ los) [] F e = absurd (omega arith)
difference-lowest (lo ∷ los) (k ∷ ks) F e =
    λ j. differences k (λ (t : ℕ). difference-lowest los ks (λ xs. F ((lo +ℤ pos t) ∷ xs)) (omega arith) j) 0

pub at_lowest : AtLowest
unfolding table_at table_of
at_lowest M los us F e =
    listed-equal us (λ k. remainder (difference_at los k F) M) (λ k. remainder (mixed_difference k (from_lowest los F)) M)
    (λ k b. ap (λ a. remainder a M) (difference-lowest los k F (e ∙ sym (length-below us k b))))

undifferenced : (los : List ℤ) (us : List ℕ) (F : List ℤ → ℤ) → length los ≡ length us → difference_at los (digits_at us 0) F ≡ F los
unfolding difference_at digits_at differences
undifferenced [] [] F e = refl
undifferenced [] (u ∷ us) F e = absurd (omega arith)
undifferenced (lo ∷ los) [] F e = absurd (omega arith)
undifferenced (lo ∷ los) (u ∷ us) F e =
    rw (zero-div (size us), zero-mod (size us))
    (undifferenced los us (λ xs. F ((lo +ℤ pos 0) ∷ xs)) (omega arith) ∙ ap (λ v. F (v ∷ los)) (+ℤ_idr lo))

pub first_cell : FirstCell
unfolding table_at
first_cell M los us F e h =
    get_d_tabulate (λ p. remainder (difference_at los (digits_at us p) F) M) 0 (size us) 0 0 h
    ∙ ap (λ a. remainder a M) (undifferenced los us F e)
