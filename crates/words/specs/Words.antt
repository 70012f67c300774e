-- Machine words.
--   word a     the integer a modulo 2^64, as a u64 holds it
--   plain ws   the words ws as natural numbers
use Rattle.std.specs.Prelude.{ℕ, ◌^◌, List, map, ℤ, pos}
use Rattle.integers.specs.Modulo.{remainder}

abbrev pub word : ℤ → ℕ
word a = remainder a (2 ^ 64)

abbrev pub plain : List ℕ → List ℤ
plain ws = map pos ws
