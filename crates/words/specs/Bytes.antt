-- Little-endian numbers in a list of bytes.
--   little n s i   the n bytes of s from i on as a number, the first byte weighing least
use Rattle.std.specs.Prelude.{ℕ, zero, suc, ◌+◌, ◌*◌, List, slice_index}

unfoldable pub little : ℕ → List ℕ → ℕ → ℕ
little zero s i = 0
little (suc n) s i = slice_index s i + 256 * little n s (i + 1)
