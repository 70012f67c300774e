-- The highest value of an input, from the count of its values; and its values by their counts from the lowest.
-- Assumes nothing.
use mathlib.Core.Bool.{true, false}
use mathlib.Core.Path.{◌≡◌, refl, ◌∙◌, ap, subst}
use Prim.Native.Nat.{ℕ, ◌+◌, ◌-◌, ◌^◌, ◌≤◌, ◌<◌}
use native.Mathlib.Omega.{arith}
use lib.IntN.{ℤ, pos, neg_ℤ, ◌+ℤ◌, ◌-ℤ◌, +ℤ_idl}
use lib.Pow.{pow_pos, pow-add}
use lib.Signed.{◌≤ℤ◌}
use Rattle.integers.proofs.Order.{above, at_least, add-≤, ≤-added}
use Rattle.integers.proofs.Ring.{sub-push, sub_eq}
use Rattle.formats.specs.Formats.{lowest, highest, Ends, EndsInFigures, InFormat}
use Rattle.formats.specs.declared.Format.{Format}

-- half of the values of a signed input are below 0
pub halves : (n : ℕ) → 1 ≤ n → 2 ^ n ≡ 2 ^ (n - 1) + 2 ^ (n - 1)
halves n h =
    let e : n ≡ 1 + (n - 1) = omega arith in
    ap (λ k. 2 ^ k) e ∙ pow-add 2 1 (n - 1) ∙ omega arith

-- k less than w from −u on
from_minus : (u w k : ℕ) → w ≡ u + u → k ≤ w → neg_ℤ (pos u) +ℤ pos (w - k) ≡ pos u -ℤ pos k
from_minus u w k e h = simp sub-push (sub_eq _ _ _ _ (omega arith))

less : (w k : ℕ) → k ≤ w → pos (w - k) ≡ pos w -ℤ pos k
less w k h = simp sub-push (sub_eq _ _ _ _ (omega arith))

ends-signed : (f : Format) → f.signed ≡ true → 1 ≤ f.length → highest f ≡ pos (2 ^ (f.length - 1)) -ℤ pos 1
unfolding highest lowest
ends-signed f e h = rw e (from_minus (2 ^ (f.length - 1)) (2 ^ f.length) 1 (halves f.length h) (pow_pos f.length))

ends-unsigned : (f : Format) → f.signed ≡ false → highest f ≡ pos (2 ^ f.length) -ℤ pos 1
unfolding highest lowest
ends-unsigned f e = rw e (+ℤ_idl (pos (2 ^ f.length - 1)) ∙ less (2 ^ f.length) 1 (pow_pos f.length))

pub ends : Ends
ends = record { signed = ends-signed; unsigned = ends-unsigned }

pub ends_in_figures : EndsInFigures
unfolding lowest highest
ends_in_figures = record { lowest1 = refl; highest1 = refl; lowest64 = refl; highest64 = refl }

-- the values of an input are the 2^n from the lowest up
pub counted_in : (f : Format) (t : ℕ) → t < 2 ^ f.length → InFormat f (lowest f +ℤ pos t)
unfolding highest
counted_in f t h =
    record {
      low = at_least (lowest f) t;
      high = add-≤ (lowest f) t (2 ^ f.length - 1) (omega arith);
    }

pub record Counted (f : Format) (v : ℤ) : Type 0 where
  pub count : ℕ
  pub below : count < 2 ^ f.length
  pub value : v ≡ lowest f +ℤ pos count

pub count_of : (f : Format) (v : ℤ) → InFormat f v → Counted f v
unfolding highest
count_of f v i =
    let t = above (lowest f) v i.low in
    record {
      count = t.0;
      below = omega (arith, pow_pos f.length, ≤-added (lowest f) t.0 (2 ^ f.length - 1) (subst (λ z. z ≤ℤ highest f) t.1 i.high));
      value = t.1;
    }
