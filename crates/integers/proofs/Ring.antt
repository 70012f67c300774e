-- The integers are a commutative ring, and a device that proves identities of commutative rings in one line each.
-- Each integer is a formal difference `sub m n` of two natural numbers. Sum, product and negation push through `sub` (the rules
-- `sub-push`), and two differences m − n and k − l are equal if and only if m + l = k + n, which is an identity over ℕ.
-- An identity in three integers is proved so:  law = ring₃ _ λ m n k l i j. simp sub-push (sub_eq _ _ _ _ (omega arith))
-- The law is stated over integer variables alone, and may have up to 64 monomials in the natural numbers.
use mathlib.Core.Path.{◌≡◌, sym, ◌∙◌, ap, ap₂}
use Prim.Native.Nat.{ℕ, zero, suc, ◌+◌, ◌*◌}
use native.Mathlib.Nat.{add_comm}
use native.Mathlib.Omega.{arith}
use lib.IntN.{ℤ, pos, negsuc, neg_ℤ, ◌+ℤ◌, ◌-ℤ◌, ◌*ℤ◌}
use lib.IntN.{+ℤ_assoc, +ℤ_comm, +ℤ_idl, +ℤ_idr, +ℤ_invr, neg_ℤ-+ℤ, neg_ℤ-neg_ℤ, neg_ℤ-suc_ℤ, +ℤ-pred_ℤ, suc_ℤ-+ℤ, suc_ℤ-*ℤ, pred_ℤ-*ℤ, *ℤ_comm, zero-*ℤ}

pub sub : ℕ → ℕ → ℤ
sub m n = pos m -ℤ pos n

pub sub_pos : (m : ℕ) → pos m ≡ sub m 0
unfolding sub
sub_pos m = sym (+ℤ_idr (pos m))

pub sub_negsuc : (m : ℕ) → negsuc m ≡ sub 0 (suc m)
unfolding sub
sub_negsuc m = sym (+ℤ_idl (negsuc m))

pub sub-minus : (m : ℕ) → neg_ℤ (pos m) ≡ sub 0 m
unfolding sub
sub-minus m = sym (+ℤ_idl (neg_ℤ (pos m)))

-- (a + b) + (c + d) = (a + c) + (b + d)
pub +ℤ-swap : (a b c d : ℤ) → (a +ℤ b) +ℤ (c +ℤ d) ≡ (a +ℤ c) +ℤ (b +ℤ d)
+ℤ-swap a b c d =
    +ℤ_assoc a b (c +ℤ d)
    ∙ ap (λ x. a +ℤ x) (sym (+ℤ_assoc b c d) ∙ ap (λ x. x +ℤ d) (+ℤ_comm b c) ∙ +ℤ_assoc c b d)
    ∙ sym (+ℤ_assoc a c (b +ℤ d))

pub sub-add : (m n k l : ℕ) → sub m n +ℤ sub k l ≡ sub (m + k) (n + l)
unfolding sub
sub-add m n k l =
    +ℤ-swap (pos m) (neg_ℤ (pos n)) (pos k) (neg_ℤ (pos l)) ∙ ap (λ x. pos (m + k) +ℤ x) (sym (neg_ℤ-+ℤ (pos n) (pos l)))

pub sub_neg : (m n : ℕ) → neg_ℤ (sub m n) ≡ sub n m
unfolding sub
sub_neg m n =
    neg_ℤ-+ℤ (pos m) (neg_ℤ (pos n))
    ∙ +ℤ_comm (neg_ℤ (pos m)) (neg_ℤ (neg_ℤ (pos n)))
    ∙ ap (λ x. x +ℤ neg_ℤ (pos m)) (neg_ℤ-neg_ℤ (pos n))

sub_self : (m : ℕ) → sub m m ≡ pos 0
unfolding sub
sub_self m = +ℤ_invr (pos m)

pub sub_eq : (m n k l : ℕ) → m + l ≡ k + n → sub m n ≡ sub k l
sub_eq m n k l e = more m n l ∙ rw (e, add_comm n l) (sym (more k l n))
  where
    more : (m n k : ℕ) → sub m n ≡ sub (m + k) (n + k)
    more m n k = sym (+ℤ_idr (sub m n)) ∙ rw (← (sub_self k)) (sub-add m n k k)

pub sub-cancel : (m n k l : ℕ) → sub m n ≡ sub k l → m + l ≡ k + n
sub-cancel m n k l e = inner (m + l) (k + n) (natural m n l ∙ rw (e, add_comm n l) (sym (natural k l n)))
  where
    natural : (m n k : ℕ) → pos (m + k) ≡ sub m n +ℤ sub (n + k) 0
    natural m n k = simp (sub_pos, sub-add) (sub_eq _ _ _ _ (omega arith))

    inner : (m n : ℕ) → pos m ≡ pos n → m ≡ n
    inner m n e = cc

-- a difference of natural numbers times any integer, by recursion on the two numbers
sub_times : (m n : ℕ) (z : ℤ) → sub m n *ℤ z ≡ pos m *ℤ z -ℤ pos n *ℤ z
unfolding sub
sub_times zero zero z = rw zero-*ℤ
sub_times zero (suc n) z =
    ap (λ x. x *ℤ z) (ap (λ x. pos 0 +ℤ x) (neg_ℤ-suc_ℤ (pos n)) ∙ +ℤ-pred_ℤ (pos 0) (neg_ℤ (pos n)))
    ∙ pred_ℤ-*ℤ (sub 0 n) z
    ∙ ap (λ x. x -ℤ z) (sub_times zero n z)
    ∙ +ℤ_assoc (pos 0 *ℤ z) (neg_ℤ (pos n *ℤ z)) (neg_ℤ z)
    ∙ ap (λ x. pos 0 *ℤ z +ℤ x) (sym (neg_ℤ-+ℤ (pos n *ℤ z) z) ∙ ap neg_ℤ (sym (suc_ℤ-*ℤ (pos n) z)))
sub_times (suc m) n z =
    ap (λ x. x *ℤ z) (suc_ℤ-+ℤ (pos m) (neg_ℤ (pos n)))
    ∙ suc_ℤ-*ℤ (sub m n) z
    ∙ ap (λ x. x +ℤ z) (sub_times m n z)
    ∙ +ℤ_assoc (pos m *ℤ z) (neg_ℤ (pos n *ℤ z)) z
    ∙ ap (λ x. pos m *ℤ z +ℤ x) (+ℤ_comm (neg_ℤ (pos n *ℤ z)) z)
    ∙ sym (+ℤ_assoc (pos m *ℤ z) z (neg_ℤ (pos n *ℤ z)))
    ∙ ap (λ x. x -ℤ pos n *ℤ z) (sym (suc_ℤ-*ℤ (pos m) z))

pub sub-mul : (m n k l : ℕ) → sub m n *ℤ sub k l ≡ sub (m * k + n * l) (m * l + n * k)
unfolding sub
sub-mul m n k l =
    sub_times m n (sub k l)
    ∙ ap₂ (λ x y. x -ℤ y) (across m) (across n)
    ∙ ap (λ x. sub (k * m) (l * m) +ℤ x) (sub_neg (k * n) (l * n))
    ∙ sub-add (k * m) (l * m) (l * n) (k * n)
    ∙ sub_eq (k * m + l * n) (l * m + k * n) (m * k + n * l) (m * l + n * k) (omega arith)
  where
    across : (j : ℕ) → pos j *ℤ sub k l ≡ sub (k * j) (l * j)
    across j = *ℤ_comm (pos j) (sub k l) ∙ sub_times k l (pos j)

pub ruleset sub-push = (sub_pos, sub_negsuc, sub-minus, sub_neg, sub-add, sub-mul)

pub ring₁ : (P : ℤ → Type 0) → ((m n : ℕ) → P (sub m n)) → (a : ℤ) → P a
ring₁ P h (pos a) = rw sub_pos (h a 0)
ring₁ P h (negsuc a) = rw sub_negsuc (h 0 (suc a))

pub ring₂ : (P : ℤ → ℤ → Type 0) → ((m n k l : ℕ) → P (sub m n) (sub k l)) → (a b : ℤ) → P a b
ring₂ P h = ring₁ _ λ m n. ring₁ _ λ k l. h m n k l

pub ring₃ :
    (P : ℤ → ℤ → ℤ → Type 0) →
    ((m n k l i j : ℕ) → P (sub m n) (sub k l) (sub i j)) → (a b c : ℤ) → P a b c
ring₃ P h = ring₁ _ λ m n. ring₂ _ λ k l i j. h m n k l i j

pub ring₄ :
    (P : ℤ → ℤ → ℤ → ℤ → Type 0) →
    ((m n k l i j g h : ℕ) → P (sub m n) (sub k l) (sub i j) (sub g h)) → (a b c d : ℤ) → P a b c d
ring₄ P h = ring₁ _ λ m n. ring₃ _ λ k l i j p q. h m n k l i j p q

pub *ℤ-assoc : (a b c : ℤ) → (a *ℤ b) *ℤ c ≡ a *ℤ (b *ℤ c)
*ℤ-assoc = ring₃ _ λ m n k l i j. simp sub-push (sub_eq _ _ _ _ (omega arith))

pub *ℤ-left-comm : (a b c : ℤ) → a *ℤ (b *ℤ c) ≡ b *ℤ (a *ℤ c)
*ℤ-left-comm = ring₃ _ λ m n k l i j. simp sub-push (sub_eq _ _ _ _ (omega arith))

pub *ℤ-distribl : (a b c : ℤ) → a *ℤ (b +ℤ c) ≡ a *ℤ b +ℤ a *ℤ c
*ℤ-distribl = ring₃ _ λ m n k l i j. simp sub-push (sub_eq _ _ _ _ (omega arith))

pub *ℤ-negr : (a b : ℤ) → a *ℤ neg_ℤ b ≡ neg_ℤ (a *ℤ b)
*ℤ-negr = ring₂ _ λ m n k l. simp sub-push (sub_eq _ _ _ _ (omega arith))

pub +ℤ-opposite : (a b : ℤ) → a +ℤ negsuc 0 *ℤ b ≡ a -ℤ b
+ℤ-opposite = ring₂ _ λ m n k l. simp sub-push (sub_eq _ _ _ _ (omega arith))

pub *ℤ-idl : (a : ℤ) → pos 1 *ℤ a ≡ a
*ℤ-idl = ring₁ _ λ m n. simp sub-push (sub_eq _ _ _ _ (omega arith))
