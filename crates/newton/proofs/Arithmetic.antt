-- The arithmetic of specs/Arithmetic.antt is that of the values: each operation's value at x is the operation on the values.
-- By induction on the coefficients, each step an identity of the ring. And the coefficients of a sum and of a difference.
use mathlib.Core.Path.{◌≡◌, refl, sym, ◌∙◌, ap, ap₂}
use mathlib.Core.List.{List, [], ◌∷◌}
use Prim.Native.Nat.{ℕ, zero, suc}
use native.Mathlib.Omega.{arith}
use lib.IntN.{ℤ, pos, negsuc, ◌+ℤ◌, ◌-ℤ◌, ◌*ℤ◌}
use lib.IntN.{+ℤ_idl, +ℤ_idr, +ℤ_comm, +ℤ-neg_ℤ_cancel, -ℤ-+ℤ_cancel, *ℤ-zero, zero-*ℤ, suc_ℤ-*ℤ}
use Rattle.integers.proofs.Ring.{sub-push, sub_eq, ring₂, ring₃, ring₄, +ℤ-swap, +ℤ-opposite, *ℤ-distribl, *ℤ-idl}
use Rattle.newton.specs.Polynomial.{value, coefficient}
use Rattle.newton.specs.Arithmetic.{add, scale, sub, shift, mul, delta}

pub value-add : (p q : List ℤ) (x : ℤ) → value (add p q) x ≡ value p x +ℤ value q x
unfolding value add
value-add [] r x = sym (+ℤ_idl (value r x))
value-add (c ∷ q) [] x = sym (+ℤ_idr (value (c ∷ q) x))
value-add (c ∷ q) (d ∷ r) x =
    ap (λ y. (c +ℤ d) +ℤ y)
    (ap (λ y. x *ℤ y) (value-add q r (x -ℤ pos 1)) ∙ *ℤ-distribl x (value q (x -ℤ pos 1)) (value r (x -ℤ pos 1)))
    ∙ +ℤ-swap c d (x *ℤ value q (x -ℤ pos 1)) (x *ℤ value r (x -ℤ pos 1))

pub value-scale : (k : ℤ) (p : List ℤ) (x : ℤ) → value (scale k p) x ≡ k *ℤ value p x
unfolding value scale
value-scale k [] x = sym (*ℤ-zero k)
value-scale k (c ∷ q) x =
    ap (λ y. k *ℤ c +ℤ x *ℤ y) (value-scale k q (x -ℤ pos 1)) ∙ collect k c x (value q (x -ℤ pos 1))
  where
    collect : (k c x y : ℤ) → k *ℤ c +ℤ x *ℤ (k *ℤ y) ≡ k *ℤ (c +ℤ x *ℤ y)
    collect = ring₄ _ λ a b c d e f g h. simp sub-push (sub_eq _ _ _ _ (omega arith))

pub value-sub : (p q : List ℤ) (x : ℤ) → value (sub p q) x ≡ value p x -ℤ value q x
unfolding sub
value-sub p q x =
    value-add p (scale (negsuc 0) q) x
    ∙ ap (λ y. value p x +ℤ y) (value-scale (negsuc 0) q x)
    ∙ +ℤ-opposite (value p x) (value q x)

-- the list of one coefficient is a constant, and lo, 1 is lo + x
pub value-constant : (c x : ℤ) → value (c ∷ []) x ≡ c
unfolding value
value-constant c x = ap (λ y. c +ℤ y) (*ℤ-zero x) ∙ +ℤ_idr c

pub value_shifted : (lo x : ℤ) → value (lo ∷ pos 1 ∷ []) x ≡ lo +ℤ x
unfolding value
value_shifted lo x = ap (λ y. lo +ℤ x *ℤ (pos 1 +ℤ y)) (*ℤ-zero (x -ℤ pos 1)) ∙ linear lo x
  where
    linear : (lo x : ℤ) → lo +ℤ x *ℤ (pos 1 +ℤ pos 0) ≡ lo +ℤ x
    linear = ring₂ _ λ a b c d. simp sub-push (sub_eq _ _ _ _ (omega arith))

pub value-shift : (p : List ℤ) (x : ℤ) → value (shift p) x ≡ value p (x +ℤ pos 1)
unfolding value shift
value-shift [] x = refl
value-shift (c ∷ q) x =
    value-add (c ∷ shift q) q x
    ∙ ap (λ y. (c +ℤ x *ℤ y) +ℤ value q x) (value-shift q (x -ℤ pos 1) ∙ ap (value q) (-ℤ-+ℤ_cancel x (pos 1)))
    ∙ collect c x (value q x)
    ∙ ap (λ y. c +ℤ (x +ℤ pos 1) *ℤ value q y) (sym (+ℤ-neg_ℤ_cancel x (pos 1)))
  where
    collect : (c x y : ℤ) → (c +ℤ x *ℤ y) +ℤ y ≡ c +ℤ (x +ℤ pos 1) *ℤ y
    collect = ring₃ _ λ a b c d e f. simp sub-push (sub_eq _ _ _ _ (omega arith))

pub value-mul : (p q : List ℤ) (x : ℤ) → value (mul p q) x ≡ value p x *ℤ value q x
unfolding value mul
value-mul [] r x = sym (zero-*ℤ (value r x))
value-mul (c ∷ q) r x =
    value-add (scale c r) (pos 0 ∷ mul q (shift r)) x
    ∙ ap₂ (λ y z. y +ℤ (pos 0 +ℤ x *ℤ z)) (value-scale c r x) (value-mul q (shift r) (x -ℤ pos 1))
    ∙ ap (λ y. c *ℤ value r x +ℤ (pos 0 +ℤ x *ℤ (value q (x -ℤ pos 1) *ℤ y)))
    (value-shift r (x -ℤ pos 1) ∙ ap (value r) (-ℤ-+ℤ_cancel x (pos 1)))
    ∙ collect c x (value q (x -ℤ pos 1)) (value r x)
  where
    collect : (c x y z : ℤ) → c *ℤ z +ℤ (pos 0 +ℤ x *ℤ (y *ℤ z)) ≡ (c +ℤ x *ℤ y) *ℤ z
    collect = ring₄ _ λ a b c d e f g h. simp sub-push (sub_eq _ _ _ _ (omega arith))

pub value-delta : (p : List ℤ) (x : ℤ) → value (delta p) x ≡ value p (x +ℤ pos 1) -ℤ value p x
unfolding value delta
value-delta [] x = refl
value-delta (c ∷ q) x =
    value-add q (pos 0 ∷ delta q) x
    ∙ ap (λ y. value q x +ℤ (pos 0 +ℤ x *ℤ y))
    (value-delta q (x -ℤ pos 1) ∙ ap (λ y. value q y -ℤ value q (x -ℤ pos 1)) (-ℤ-+ℤ_cancel x (pos 1)))
    ∙ collect c x (value q x) (value q (x -ℤ pos 1))
    ∙ ap (λ y. (c +ℤ (x +ℤ pos 1) *ℤ value q y) -ℤ (c +ℤ x *ℤ value q (x -ℤ pos 1))) (sym (+ℤ-neg_ℤ_cancel x (pos 1)))
  where
    collect : (c x y z : ℤ) → y +ℤ (pos 0 +ℤ x *ℤ (y -ℤ z)) ≡ (c +ℤ (x +ℤ pos 1) *ℤ y) -ℤ (c +ℤ x *ℤ z)
    collect = ring₄ _ λ a b c d e f g h. simp sub-push (sub_eq _ _ _ _ (omega arith))

coefficient-add : (p q : List ℤ) (k : ℕ) → coefficient (add p q) k ≡ coefficient p k +ℤ coefficient q k
unfolding coefficient add
coefficient-add [] r k = sym (+ℤ_idl (coefficient r k))
coefficient-add (c ∷ q) [] k = sym (+ℤ_idr (coefficient (c ∷ q) k))
coefficient-add (c ∷ q) (d ∷ r) zero = refl
coefficient-add (c ∷ q) (d ∷ r) (suc k) = coefficient-add q r k

pub coefficient-delta : (p : List ℤ) (k : ℕ) → coefficient (delta p) k ≡ pos (suc k) *ℤ coefficient p (suc k)
unfolding coefficient delta
coefficient-delta [] k = sym (*ℤ-zero (pos (suc k)))
coefficient-delta (c ∷ q) zero =
    coefficient-add q (pos 0 ∷ delta q) 0 ∙ +ℤ_idr (coefficient q 0) ∙ sym (*ℤ-idl (coefficient q 0))
coefficient-delta (c ∷ q) (suc k) =
    coefficient-add q (pos 0 ∷ delta q) (suc k)
    ∙ ap (λ y. coefficient q (suc k) +ℤ y) (coefficient-delta q k)
    ∙ +ℤ_comm (coefficient q (suc k)) (pos (suc k) *ℤ coefficient q (suc k))
    ∙ sym (suc_ℤ-*ℤ (pos (suc k)) (coefficient q (suc k)))
