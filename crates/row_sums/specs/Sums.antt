-- Sums and differences of rows of w lanes, modulo 2^64.
--   row_sums w ws a b l         lane l of the sum of rows a and b
--   row_differences w ws a b l  lane l of row a less row b
use Rattle.std.specs.Prelude.{ℕ, ◌+◌, ◌-◌, ◌%◌, ◌^◌, List}
use Rattle.rows.specs.Rows.{lane}

abbrev pub row_sums : ℕ → List ℕ → ℕ → ℕ → ℕ → ℕ
row_sums w ws a b l = (lane w ws a l + lane w ws b l) % 2 ^ 64

abbrev pub row_differences : ℕ → List ℕ → ℕ → ℕ → ℕ → ℕ
row_differences w ws a b l = (lane w ws a l + (2 ^ 64 - lane w ws b l % 2 ^ 64)) % 2 ^ 64
