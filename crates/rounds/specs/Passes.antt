-- What the passes over the cells do, on lists of words.
--   factor sum           1 where neighbours are added, −1 where they are subtracted
--   cell l q             entry q of l, as an integer
--   rounded s w from l   each entry from `from` on, joined with s times the entry w before it
--   lines u w E l        l as lines of u entries that stand w apart, each line f replaced by E f
--   column u w l b p     the line whose entries are at the places (b·u + t)·w + p, for t from 0 on
--   whole s f k          the k-fold combination of the line f at its start
--   partly s r f k       the same with at most r of the k steps done
--   passed s u w l       l with entry k of each line replaced by its k-fold combination
use Rattle.std.specs.Prelude.{ℕ, ◌+◌, ◌-◌, ◌*◌, ◌/◌, ◌%◌, min, Bool, true, false, cond, List, length, ℤ, pos, negsuc, ◌+ℤ◌, ◌*ℤ◌, nat_lt, slice_index}
use Rattle.differences.specs.Neighbours.{combined}
use Rattle.lists.specs.Lists.{tabulate}
use Rattle.words.specs.Words.{word}

abbrev pub factor : Bool → ℤ
factor true = pos 1
factor false = negsuc 0

abbrev pub cell : List ℕ → ℕ → ℤ
cell l q = pos (slice_index l q)

unfoldable pub rounded : ℤ → ℕ → ℕ → List ℕ → List ℕ
rounded s w from l =
    tabulate (λ (q : ℕ). cond (nat_lt q from) (slice_index l q) (word (cell l q +ℤ s *ℤ cell l (q - w)))) 0 (length l)

-- place q is entry q / w % u of its line
unfoldable pub lines : ℕ → ℕ → ((ℕ → ℤ) → ℕ → ℤ) → List ℕ → List ℕ
lines u w E l =
    tabulate (λ (q : ℕ). word (E (λ (t : ℕ). cell l (q - q / w % u * w + t * w)) (q / w % u))) 0 (length l)

unfoldable pub column : ℕ → ℕ → List ℕ → ℕ → ℕ → ℕ → ℤ
column u w l b p t = cell l ((b * u + t) * w + p)

abbrev pub whole : ℤ → (ℕ → ℤ) → ℕ → ℤ
whole s f k = combined s k f 0

abbrev pub partly : ℤ → ℕ → (ℕ → ℤ) → ℕ → ℤ
partly s r f k = combined s (min r k) f (k - min r k)

unfoldable pub passed : ℤ → ℕ → ℕ → List ℕ → List ℕ
passed s u w l = lines u w (whole s) l
