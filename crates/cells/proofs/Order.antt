-- Differencing and summing give the number of the first condition that holds: each test before it passes, and its own does not.
use mathlib.Core.Bool.{not-eq-not}
use mathlib.Core.List.{List}
use mathlib.Core.Path.{◌≡◌, ◌∙◌}
use Prim.Native.Nat.{ℕ, suc}
use native.Mathlib.Omega.{arith}
use Rattle.sizes.specs.Sizes.{refused_by, sizes_refusal}
use Rattle.sizes.specs.declared.Sizes.{Sizes}
use Rattle.sizes.proofs.Judged.{number_of, sizes_2, sizes_3, sizes_5}
use Rattle.sizes.proofs.Ranges.{output-range, inputs-range}
use Rattle.sizes.proofs.Ruled.{output-within, inputs-within, ruled}
use Rattle.cells.specs.Cells.{cells_refusal}
use Rattle.cells.specs.Order.{CellsInOrder}
use Rattle.cells.proofs.Answers.{fitting, cells_unruled, cells_13}

-- what the sizes are refused by, the call is
passed_on : (z : Sizes) (cells : List ℕ) (len k : ℕ) → sizes_refusal z ≡ refused_by (suc k) → cells_refusal z cells len ≡ refused_by (suc k)
passed_on z cells len k e =
    cells_unruled z cells len (λ n. omega (arith, number_of e, n)) ∙ e

pub cells_in_order : CellsInOrder
cells_in_order z cells len =
    record {
      output = λ n. passed_on z cells len 1 (sizes_2 z (not-eq-not.0 (λ o. n (output-range z o))));
      inputs = λ o n. passed_on z cells len 2 (sizes_3 z (output-within z o) (not-eq-not.0 (λ i. n (inputs-range z i))));
      widths = λ o i n.
          passed_on z cells len 4
          (sizes_5 z (output-within z o) (inputs-within z i) (not-eq-not.0 (λ w. n (ruled z (output-within z o) (inputs-within z i) w))));
      entries = λ r n. cells_13 z cells len r (not-eq-not.0 (λ f. n (fitting z cells len f)));
    }
