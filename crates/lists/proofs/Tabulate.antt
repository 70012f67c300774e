-- The laws of `tabulate`: its length, its entries, and equality by entries. By induction on the count.
use mathlib.Core.Path.{◌≡◌, refl, sym, ◌∙◌, ap, ap₂}
use mathlib.Core.List.{List, ◌∷◌}
use Prim.Native.Nat.{ℕ, zero, suc, ◌+◌, ◌<◌}
use native.Mathlib.Omega.{arith}
use lib.ListN.{length, get_or}
use lib.Seq.{ext_get_or}
use Rattle.lists.specs.Lists.{tabulate}

pub length-tabulate : {A : Type 0} (f : ℕ → A) (j n : ℕ) → length (tabulate f j n) ≡ n
unfolding tabulate
length-tabulate f j zero = refl
length-tabulate f j (suc n) = ap suc (length-tabulate f (j + 1) n)

pub get_d_tabulate : {A : Type 0} (f : ℕ → A) (j n : ℕ) (d : A) (i : ℕ) → i < n → get_or (tabulate f j n) i d ≡ f (j + i)
unfolding tabulate
get_d_tabulate f j zero d i h = absurd (omega arith)
get_d_tabulate f j (suc n) d zero h = ap f (omega arith)
get_d_tabulate f j (suc n) d (suc i) h = get_d_tabulate f (j + 1) n d i (omega arith) ∙ ap f (omega arith)

-- a list is known by its length and entries
pub tabulate_unique :
    {A : Type 0} (f : ℕ → A) (n : ℕ) (d : A) (ys : List A)
    → length ys ≡ n → ((i : ℕ) → i < n → get_or ys i d ≡ f i) → ys ≡ tabulate f 0 n
tabulate_unique f n d ys e h =
    ext_get_or d ys (tabulate f 0 n) (e ∙ sym (length-tabulate f 0 n))
    (λ i l. h i (omega arith) ∙ sym (get_d_tabulate f 0 n d i (omega arith) ∙ ap f (omega arith)))

pub tabulate-equal :
    {A : Type 0} (f g : ℕ → A) (j n : ℕ) → ((i : ℕ) → i < j + n → f i ≡ g i) → tabulate f j n ≡ tabulate g j n
unfolding tabulate
tabulate-equal f g j zero h = refl
tabulate-equal f g j (suc n) h = ap₂ ◌∷◌ (h j (omega arith)) (tabulate-equal f g (j + 1) n (λ i l. h i (omega arith)))
