-- The cases of what differencing and summing refuse: 13 by the tests that led to it, each refusal under what was judged before it, and what an
-- answer of number 0 tells.
use mathlib.Core.Path.{◌≡◌, refl, sym, ◌∙◌, ap}
use mathlib.Core.Bool.{Bool, true, false, not, ◌||◌, ◌&&◌, true≢false}
use mathlib.Core.List.{List}
use mathlib.Core.Logic.{inl, inr}
use Prim.Native.Nat.{ℕ, zero, suc, ◌+◌, ◌≤◌, ◌%◌, ◌^◌}
use native.Mathlib.Decide.{ℕ_discrete}
use native.Mathlib.Omega.{arith}
use lib.ListN.{length, get_or, take, drop}
use lib.Seq.{drop-cons}
use native.Mathlib.Numerals.{add-one}
use Rattle.std.specs.List.{list_any}
use lib.Dec.{eqb}
use lib.Pow.{pow_pos}
use Rattle.file.proofs.Cases.{own-remainder}
use borrow.Author.Tests.{lt-ltb, le-ltb, ltb-true, ltb-false, eq-eqb, ne_eqb, not-false}
use Rattle.grid.specs.Grid.{grid_size}
use Rattle.ranges.specs.Search.{every}
use Rattle.ranges.proofs.Search.{true_or_false, cond_each, every-at, every_of}
use Rattle.sizes.specs.Sizes.{Ruled, refused_by, accepted, accepts, sizes_refusal}
use Rattle.sizes.specs.declared.Sizes.{Sizes}
use Rattle.sizes.proofs.Judged.{number_of, sizes-accepted, sizes-accepts, sizes-ruled}
use Rattle.cells.specs.Taken.{Fitting, CellsTaken}
use Rattle.cells.specs.Cells.{small_cell, large_cell, bad_cells, cells_refusal}

neither : (a b : Bool) → (a || b) ≡ false → (a ≡ false) × (b ≡ false)
neither true b e = absurd (true≢false e)
neither false b e = (refl, e)

-- a number is below 2^m exactly where its cut to m bits is itself
module _ (m : ℕ) (cells : List ℕ) where
  large-from : (k j : ℕ) → j + k ≤ length cells → list_any (λ x. not (eqb (x % 2 ^ m) x)) (take k (drop j cells)) ≡ not (every (small_cell m cells) j k)
  unfolding every small_cell
  large-from zero j h = refl
  large-from (suc k) j h =
      let later = rw (add-one j) at (large-from k (j + 1) (omega arith)) in
      rw (drop-cons cells j 0 (omega arith), add-one j, own-remainder (get_or cells j 0) (2 ^ m) (pow_pos m), later) (or_not _ _)
    where
      or_not : (a b : Bool) → (not a || not b) ≡ not (a && b)
      or_not true b = refl
      or_not false b = refl

  pub any_large : (g : ℕ) → g ≤ length cells → list_any (λ x. not (eqb (x % 2 ^ m) x)) (take g cells) ≡ large_cell m g cells
  unfolding large_cell
  any_large g h = large-from g 0 (omega arith)

module _ (m g : ℕ) (cells : List ℕ) (len : ℕ) where
  module _ (h : g ≤ length cells) where
    pub cells-judged : g ≤ len → bad_cells m g cells len ≡ large_cell m g cells
    unfolding bad_cells
    cells-judged l = rw (le-ltb (length cells) g h, le-ltb len g l)

    -- of slices that are long enough the cells decide
    pub judged_any : g ≤ len → list_any (λ x. not (eqb (x % 2 ^ m) x)) (take g cells) ≡ bad_cells m g cells len
    judged_any l = any_large m cells g h ∙ sym (cells-judged l)

module _ (z : Sizes) (cells : List ℕ) (len : ℕ) where
  pub fitting : bad_cells z.m (grid_size z) cells len ≡ false → Fitting z cells len
  unfolding bad_cells large_cell small_cell
  fitting e =
      let q = neither _ _ e in
      let p = neither _ _ q.0 in
      record {
        read = ltb-false _ _ p.0;
        written = ltb-false _ _ p.1;
        small = λ i l. ltb-true _ _ (every-at (small_cell z.m cells) 0 (grid_size z) i (not-false _ q.1) (omega arith) (omega arith));
      }

  fits : Fitting z cells len → bad_cells z.m (grid_size z) cells len ≡ false
  unfolding large_cell small_cell
  fits f =
      cells-judged z.m (grid_size z) cells len f.read f.written
      ∙ ap not (every_of (small_cell z.m cells) 0 (grid_size z) (λ i l h. lt-ltb _ _ (f.small i (omega arith))))

  pub cells_unruled : ¬ ((sizes_refusal z).number ≡ 0) → cells_refusal z cells len ≡ sizes_refusal z
  unfolding cells_refusal
  cells_unruled n = rw (ne_eqb _ 0 n)

  pub cells_13 : Ruled z → bad_cells z.m (grid_size z) cells len ≡ true → cells_refusal z cells len ≡ refused_by 13
  unfolding cells_refusal
  cells_13 r e = rw (eq-eqb _ 0 (number_of (sizes-accepted z r)), e)

  pub cells-accepted : CellsTaken z cells len → cells_refusal z cells len ≡ accepted
  unfolding cells_refusal
  cells-accepted t = rw (eq-eqb _ 0 (number_of (sizes-accepted z t.sizes)), fits t.fits)

  pub cells-taken : (cells_refusal z cells len).number ≡ 0 → CellsTaken z cells len
  cells-taken e =
      elim (ℕ_discrete (sizes_refusal z).number 0) [
        | no n ↦ absurd (n (sym (number_of (cells_unruled n)) ∙ e))
        | yes p ↦
            let r = sizes-ruled z p in
            elim (true_or_false (bad_cells z.m (grid_size z) cells len)) [
              | inl b ↦ absurd (omega (arith, number_of (cells_13 r b), e))
              | inr b ↦ record { sizes = r; fits = fitting b }
            ]
      ]

-- an accepted call shows nothing
pub cells-accepts : (z : Sizes) (cells : List ℕ) (len : ℕ) → accepts (cells_refusal z cells len) ≡ true → cells_refusal z cells len ≡ accepted
unfolding cells_refusal
cells-accepts z cells len =
    cond_each (λ r. accepts r ≡ true → r ≡ accepted) (accepts (sizes_refusal z))
    (cond_each (λ r. accepts r ≡ true → r ≡ accepted) (bad_cells z.m (grid_size z) cells len) (λ e. absurd (true≢false (sym e))) (λ e. refl))
    (sizes-accepts z)
