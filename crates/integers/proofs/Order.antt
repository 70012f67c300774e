-- The order of the integers by counts: what is at or above an integer is that integer and a natural number, and sums with one integer are ordered
-- as the natural numbers that are added to it.
-- Assumes nothing.
use mathlib.Core.Bool.{Bool, true, false, not}
use mathlib.Core.Path.{◌≡◌, sym, ◌∙◌, subst, ap, ap₂}
use mathlib.Core.Logic.{◌⊎◌, inl, inr, ⊎_elim}
use Prim.Native.Nat.{ℕ, suc, ◌+◌, ◌-◌, ◌≤◌, ◌<◌}
use native.Mathlib.Nat.{eq-or-lt_of_le}
use native.Mathlib.Decide.{dec_lt}
use native.Mathlib.Omega.{arith}
use lib.Dec.{T, leb→le, le→leb, ltb→lt}
use lib.IntN.{ℤ, pos, negsuc, ◌+ℤ◌, +ℤ_assoc, +ℤ_idr}
use lib.Signed.{◌≤ℤ◌, ◌<ℤ◌, lt_z, lt_z_yes, lt_z_no, ≤ℤ_refl, <ℤ-≤ℤ_trans, clash_ℤ}
use Rattle.integers.proofs.Ring.{sub, sub_pos, sub_negsuc, sub-push, sub-add, sub_eq, sub-cancel, ring₁}

-- a negative number and a natural number, as a difference
negsuc_add : (a t : ℕ) → negsuc a +ℤ pos t ≡ sub t (suc a)
negsuc_add a t = ap₂ (λ y z. y +ℤ z) (sub_negsuc a) (sub_pos t) ∙ sub-add 0 (suc a) t 0 ∙ sub_eq _ _ _ _ (omega arith)

-- an integer at or above another is that other and a natural number
pub above : (a b : ℤ) → a ≤ℤ b → (t : ℕ) × (b ≡ a +ℤ pos t)
above (pos a) (pos b) h = (b - a, ap pos (omega (arith, leb→le a b h.le)))
above (pos a) (negsuc b) h = absurd h.le
above (negsuc a) (pos b) h = (suc a + b, sub_pos b ∙ sub_eq _ _ _ _ (omega arith) ∙ sym (negsuc_add a (suc a + b)))
above (negsuc a) (negsuc b) h =
    (a - b, sub_negsuc b ∙ sub_eq _ _ _ _ (omega (arith, leb→le b a h.le)) ∙ sym (negsuc_add a (a - b)))

pub add-cancel : (a : ℤ) (s t : ℕ) → a +ℤ pos s ≡ a +ℤ pos t → s ≡ t
add-cancel = ring₁ _ λ m n s t e. omega (arith, sub-cancel _ _ _ _ (simp sub-push at e))

pub <-or-≤ : (a b : ℤ) → (a <ℤ b) ⊎ (b ≤ℤ a)
<-or-≤ a b = by-test (lt_z a b) (λ t. t) (λ t. t)
  where
    by-test : (q : Bool) → (T q → T (lt_z a b)) → (T (not q) → T (not (lt_z a b))) → (a <ℤ b) ⊎ (b ≤ℤ a)
    by-test true h k = inl (lt_z_yes (h tt))
    by-test false h k = inr (lt_z_no (k tt))

pub <→≤ : (a b : ℤ) → a <ℤ b → a ≤ℤ b
<→≤ (pos a) (pos b) h = record { le = le→leb a b (omega (arith, ltb→lt a b h.lt)) }
<→≤ (pos a) (negsuc b) h = absurd h.lt
<→≤ (negsuc a) (pos b) h = record { le = tt }
<→≤ (negsuc a) (negsuc b) h = record { le = le→leb b a (omega (arith, ltb→lt b a h.lt)) }

pub <ℤ-trans : {a b c : ℤ} → a <ℤ b → b <ℤ c → a <ℤ c
<ℤ-trans {a} {b} {c} h k = <ℤ-≤ℤ_trans h (<→≤ b c k)

-- what is added to one integer is ordered as the sums are
pub add-< : (a : ℤ) (s t : ℕ) → s < t → (a +ℤ pos s) <ℤ (a +ℤ pos t)
add-< a s t h =
    ⊎_elim (λ (k : (a +ℤ pos s) <ℤ (a +ℤ pos t)). k)
    (λ (k : (a +ℤ pos t) ≤ℤ (a +ℤ pos s)).
    let u = above (a +ℤ pos t) (a +ℤ pos s) k in
    absurd (omega (arith, add-cancel a s (t + u.0) (u.1 ∙ +ℤ_assoc a (pos t) (pos u.0)))))
    (<-or-≤ (a +ℤ pos s) (a +ℤ pos t))

pub add-≤ : (a : ℤ) (s t : ℕ) → s ≤ t → (a +ℤ pos s) ≤ℤ (a +ℤ pos t)
add-≤ a s t h =
    ⊎_elim (λ (e : s ≡ t). subst (λ n. (a +ℤ pos s) ≤ℤ (a +ℤ pos n)) e (≤ℤ_refl (a +ℤ pos s))) (λ (k : s < t). <→≤ _ _ (add-< a s t k)) (eq-or-lt_of_le h)

-- no sum with a natural number is below
pub at_least : (a : ℤ) (t : ℕ) → a ≤ℤ (a +ℤ pos t)
at_least a t = subst (λ z. z ≤ℤ (a +ℤ pos t)) (+ℤ_idr a) (add-≤ a 0 t (omega arith))

pub <-added : (a : ℤ) (s t : ℕ) → (a +ℤ pos s) <ℤ (a +ℤ pos t) → s < t
<-added a s t h = elim (dec_lt s t) [ yes k ↦ k | no k ↦ clash_ℤ h (add-≤ a t s (omega arith)) ]

pub ≤-added : (a : ℤ) (s t : ℕ) → (a +ℤ pos s) ≤ℤ (a +ℤ pos t) → s ≤ t
≤-added a s t h = elim (dec_lt t s) [ yes k ↦ clash_ℤ (add-< a t s k) h | no k ↦ omega arith ]
