-- Which number differencing and summing give, and in which order they judge, as orders of numbers, with no test in them. Which calls are
-- accepted is in specs/Taken.
--   CellsOrder z cells len r   r is what the call is refused by:
--     output   m is not 1 to 64: by 2
--     inputs   else, d is not 1 to max_inputs: by 3
--     widths   else, a width byte breaks its rule: by 5
--     entries  else, a slice has fewer than G entries, or one of the first G that are read is 2^m or more: by 13
--   CellsInOrder               so the calls judge. Proved in proofs/Order
use Rattle.std.specs.Prelude.{List, ◌≡◌, ℕ}
use Rattle.sizes.specs.Sizes.{OutputRuled, InputsRuled, Ruled, refused_by}
use Rattle.sizes.specs.declared.Refusal.{Refusal}
use Rattle.sizes.specs.declared.Sizes.{Sizes}
use Rattle.cells.specs.Cells.{cells_refusal}
use Rattle.cells.specs.Taken.{Fitting}

pub record CellsOrder (z : Sizes) (cells : List ℕ) (len : ℕ) (r : Refusal) : Type 0 where
  pub output : ¬ OutputRuled z → r ≡ refused_by 2
  pub inputs : OutputRuled z → ¬ InputsRuled z → r ≡ refused_by 3
  pub widths : OutputRuled z → InputsRuled z → ¬ Ruled z → r ≡ refused_by 5
  pub entries : Ruled z → ¬ Fitting z cells len → r ≡ refused_by 13

abbrev pub CellsInOrder : Type 0
CellsInOrder = (z : Sizes) (cells : List ℕ) (len : ℕ) → CellsOrder z cells len (cells_refusal z cells len)
