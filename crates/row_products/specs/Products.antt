-- Products of rows of w lanes.
--   row_products w ws a b l     lane l of the product of rows a and b modulo 2^64
--   row_low_products w ws a b l  the product of the low 32 bits of that lane of the two rows
use Rattle.std.specs.Prelude.{List, ℕ, ◌*◌, ◌%◌, ◌^◌}
use Rattle.rows.specs.Rows.{lane}

abbrev pub row_products : ℕ → List ℕ → ℕ → ℕ → ℕ → ℕ
row_products w ws a b l = lane w ws a l * lane w ws b l % 2 ^ 64

abbrev pub row_low_products : ℕ → List ℕ → ℕ → ℕ → ℕ → ℕ
row_low_products w ws a b l = (lane w ws a l % 2 ^ 32) * (lane w ws b l % 2 ^ 32)
