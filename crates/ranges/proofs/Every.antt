-- A test of every number of a range is `all` of the list of these numbers, and one of the first entries of a list is `all` of these: how
-- `(j..j + k).all(f)` and `xs[..n].iter().all(p)` give what `every` says.
-- Assumes nothing.
use mathlib.Core.Bool.{Bool, ◌&&◌}
use mathlib.Core.List.{List, [], ◌∷◌}
use mathlib.Core.Path.{◌≡◌, refl, sym, ap, ◌∙◌}
use Prim.Native.Nat.{ℕ, zero, suc, ◌+◌, ◌≤◌}
use native.Mathlib.Omega.{arith}
use lib.ListN.{length, get_or, take}
use Rattle.std.specs.List.{list_all, range_with_len}
use Rattle.ranges.specs.Search.{every}

pub all_every : (f : ℕ → Bool) (j k : ℕ) → list_all f (range_with_len j k) ≡ every f j k
unfolding every
all_every f j zero = refl
all_every f j (suc k) = ap (λ b. f j && b) (all_every f (j + 1) k)

every-shift : (f : ℕ → Bool) (j k : ℕ) → every f (suc j) k ≡ every (λ i. f (suc i)) j k
unfolding every
every-shift f j zero = refl
every-shift f j (suc k) =
    let next : suc j + 1 ≡ suc (j + 1) = omega arith in
    ap (λ b. f (suc j) && b) (ap (λ i. every f i k) next ∙ every-shift f (j + 1) k)

-- a test of the first n entries of a list, one after another
pub all_entries : (p : ℕ → Bool) (xs : List ℕ) (n : ℕ) → n ≤ length xs → list_all p (take n xs) ≡ every (λ i. p (get_or xs i 0)) 0 n
unfolding every
all_entries p xs zero h = refl
all_entries p [] (suc n) h = absurd (omega arith)
all_entries p (x ∷ xs) (suc n) h =
    ap (λ b. p x && b) (all_entries p xs n (omega arith) ∙ sym (every-shift (λ i. p (get_or (x ∷ xs) i 0)) 0 n))
