-- The layout of a C call, and what hangs on it.
--   has n w                w has n words
--   returned b             what a call returns: 1 where its layout is right, else 0
--   leaves b after before  a lent slice afterwards: as the call leaves it where its layout is right, else as before
use Rattle.std.specs.Prelude.{Bool, cond, List, ℕ, eqb, length}

abbrev pub has : ℕ → List ℕ → Bool
has n w = eqb (length w) n

abbrev pub returned : Bool → ℕ
returned b = cond b 1 0

abbrev pub leaves : Bool → List ℕ → List ℕ → List ℕ
leaves b after before = cond b after before
