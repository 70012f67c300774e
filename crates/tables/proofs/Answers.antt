-- The slice that differencing and summing leave: of a refused call as it was, of an accepted one with the first G entries written.
use mathlib.Core.Path.{◌≡◌, sym, ◌∙◌}
use mathlib.Core.Bool.{Bool, true, false, cond}
use mathlib.Core.List.{List, ◌++◌}
use Prim.Native.Nat.{ℕ, ◌^◌}
use lib.ListN.{length, take, drop}
use borrow.Author.Tests.{eq-eqb, ne_eqb}
use Rattle.std.specs.Prelude.{Ok, Err}
use Rattle.cells.specs.Cells.{cells_refusal}
use Rattle.cells.specs.Taken.{CellsTaken}
use Rattle.cells.proofs.Answers.{cells-accepted}
use Rattle.grid.specs.Grid.{axes_of, grid_size}
use Rattle.sizes.proofs.Answered.{ok-answered, err-answered}
use Rattle.sizes.proofs.Judged.{number_of}
use Rattle.sizes.specs.declared.Refusal.{Refusal}
use Rattle.transform.specs.Transform.{transform_of}
use Rattle.sizes.specs.declared.Sizes.{Sizes}
use Rattle.tables.specs.Tables.{differences_of, sums_of, differenced, summed_up, transformed, CellsCall}

module _ (z : Sizes) (cells lent : List ℕ) where
  pub transformed-refused : (sum : Bool) → ¬ ((cells_refusal z cells (length lent)).number ≡ 0) → lent ≡ transformed sum z cells lent
  unfolding differenced summed_up
  transformed-refused true n = rw (ne_eqb _ 0 n)
  transformed-refused false n = rw (ne_eqb _ 0 n)

  module _ (e : (cells_refusal z cells (length lent)).number ≡ 0) where
    pub differenced-accepted : differenced z cells lent ≡ differences_of z (take (grid_size z) cells) ++ drop (grid_size z) lent
    unfolding differenced
    differenced-accepted = rw (eq-eqb _ 0 e)

    pub summed-accepted : summed_up z cells lent ≡ sums_of z (take (grid_size z) cells) ++ drop (grid_size z) lent
    unfolding summed_up
    summed-accepted = rw (eq-eqb _ 0 e)

    pub transformed-accepted :
        (sum : Bool) →
        cond sum (sums_of z (take (grid_size z) cells)) (differences_of z (take (grid_size z) cells)) ++ drop (grid_size z) lent
        ≡ transformed sum z cells lent
    transformed-accepted true = sym summed-accepted
    transformed-accepted false = sym differenced-accepted

-- a call that refuses, and one that is done
module _ (z : Sizes) (cells : List ℕ) (sum : Bool) (lent : List ℕ) where
  pub refused : (q : Refusal) → q ≡ cells_refusal z cells (length lent) → ¬ (q.number ≡ 0) → CellsCall z cells sum lent (Err q) lent
  refused q e n =
      record {
        answer = err-answered _ _ q e n;
        result = transformed-refused z cells lent sum (λ o. n (number_of e ∙ o));
      }

  pub done :
      (after : List ℕ) → CellsTaken z cells (length lent)
      → after ≡ transform_of sum (2 ^ z.m) (axes_of z) (take (grid_size z) cells) ++ drop (grid_size z) lent
      → CellsCall z cells sum lent (Ok tt) after
  unfolding transform_of sums_of differences_of
  done after t o =
      let e = number_of (cells-accepted z cells (length lent) t) in
      record { answer = ok-answered _ _ e; result = o ∙ transformed-accepted z cells lent e sum }
