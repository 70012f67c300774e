-- What is claimed of difference tables and sums, for every modulus M above 0 and all axes. Each statement is proved in proofs/, under the
-- same name with a small first letter.
--   ClosedForm      one input: the p-fold difference at x is the alternating sum of document 002, formula (7)
--   AtLowest        the table on a grid with a lowest value for each axis is that of the function of counts from there
--   FirstCell       the first cell of such a table is the function at the lowest values, modulo M
--   SumOfTable      the table of a function, summed, is the function at every place of the grid, modulo M
--   SumOfDifferences  for every list of outputs below M, summing its differences returns the outputs
--   DifferencesOfSum  for every table of cells below M, differencing the summed outputs returns the table
use Rattle.std.specs.Prelude.{◌≡◌, List, ℕ, zero, suc, ◌+◌, ◌-◌, ◌<◌, ℤ, pos, neg_ℤ, ◌+ℤ◌, ◌*ℤ◌, length, get_or}
use Rattle.integers.specs.Modulo.{remainder}
use Rattle.newton.specs.Difference.{differences}
use Rattle.places.specs.Places.{size}
use Rattle.differences.specs.Table.{choose, listed, from_lowest, table_at, table_of, given, summed}

-- (−1)^k
unfoldable pub sign : ℕ → ℤ
sign zero = pos 1
sign (suc k) = neg_ℤ (sign k)

-- the sum of g(k) over the k below n
unfoldable pub total : (ℕ → ℤ) → ℕ → ℤ
total g zero = pos 0
total g (suc n) = total g n +ℤ g n

abbrev pub ClosedForm : Type 0
ClosedForm =
    (f : ℕ → ℤ) (p x : ℕ) →
    differences p f x ≡ total (λ (k : ℕ). sign k *ℤ (pos (choose p k) *ℤ f (p - k + x))) (suc p)

abbrev pub AtLowest : Type 0
AtLowest =
    (M : ℕ) (los : List ℤ) (us : List ℕ) (F : List ℤ → ℤ) → length los ≡ length us →
    table_at M los us F ≡ table_of M us (from_lowest los F)

abbrev pub FirstCell : Type 0
FirstCell =
    (M : ℕ) (los : List ℤ) (us : List ℕ) (F : List ℤ → ℤ) → length los ≡ length us → 0 < size us →
    get_or (table_at M los us F) 0 0 ≡ remainder (F los) M

abbrev pub SumOfTable : Type 0
SumOfTable =
    (M : ℕ) → 0 < M → (us : List ℕ) (F : List ℕ → ℤ) →
    summed M us (table_of M us F) ≡ listed us (λ (x : List ℕ). remainder (F x) M)

-- a list of numbers below M, one for each vector of the grid
pub record Cells (M : ℕ) (us ys : List ℕ) : Type 0 where
  pub full : length ys ≡ size us
  pub small : (p : ℕ) → p < size us → get_or ys p 0 < M

abbrev pub SumOfDifferences : Type 0
SumOfDifferences =
    (M : ℕ) (us ys : List ℕ) → Cells M us ys → summed M us (table_of M us (given us ys)) ≡ ys

abbrev pub DifferencesOfSum : Type 0
DifferencesOfSum =
    (M : ℕ) (us c : List ℕ) → Cells M us c → table_of M us (given us (summed M us c)) ≡ c
