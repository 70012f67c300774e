-- What holds of `Divides`: the multiples of M are closed under sum, difference, negation and product by any integer, and at natural
-- numbers `Divides` is a remainder of 0. A factorial divides every later one.
-- By the ring laws, each with its quotient given.
use mathlib.Core.Path.{◌≡◌, sym, ◌∙◌, ap, ap₂}
use mathlib.Core.Logic.{◌⊎◌, inl, inr}
use Prim.Native.Nat.{ℕ, zero, suc, ◌*◌, ◌/◌, ◌%◌, ◌≤◌, ◌<◌}
use native.Mathlib.Nat.{mod-add-div, mul-mod_right, zero-mod, eq-or-lt_of_le, le_of_suc-le-suc}
use native.Mathlib.Omega.{arith}
use lib.IntN.{ℤ, pos, negsuc, neg_ℤ, ◌+ℤ◌, ◌-ℤ◌, ◌*ℤ◌, *ℤ-zero}
use Rattle.integers.specs.Modulo.{Divides, factorial}
use Rattle.integers.proofs.Ring.{sub-push, sub-cancel, *ℤ-assoc, *ℤ-left-comm, *ℤ-distribl, *ℤ-negr}

pub divides-zero : (M : ℕ) → Divides M (pos 0)
divides-zero M = record { quotient = pos 0; exact = sym (*ℤ-zero (pos M)) }

pub divides_self : (M : ℕ) → Divides M (pos M)
divides_self M = record { quotient = pos 1; exact = ap pos (omega arith) }

pub divides-add : {M : ℕ} {a b : ℤ} → Divides M a → Divides M b → Divides M (a +ℤ b)
divides-add {M} p q =
    record {
      quotient = p.quotient +ℤ q.quotient;
      exact = ap₂ ◌+ℤ◌ p.exact q.exact ∙ sym (*ℤ-distribl (pos M) p.quotient q.quotient);
    }

pub divides_neg : {M : ℕ} {a : ℤ} → Divides M a → Divides M (neg_ℤ a)
divides_neg {M} p =
    record { quotient = neg_ℤ p.quotient; exact = ap neg_ℤ p.exact ∙ sym (*ℤ-negr (pos M) p.quotient) }

pub divides-sub : {M : ℕ} {a b : ℤ} → Divides M a → Divides M b → Divides M (a -ℤ b)
divides-sub p q = divides-add p (divides_neg q)

pub divides-mul-left : {M : ℕ} {a : ℤ} (b : ℤ) → Divides M a → Divides M (b *ℤ a)
divides-mul-left {M} b p =
    record { quotient = b *ℤ p.quotient; exact = ap (λ x. b *ℤ x) p.exact ∙ *ℤ-left-comm b (pos M) p.quotient }

pub divides-mul-right : {M : ℕ} {a : ℤ} (b : ℤ) → Divides M a → Divides M (a *ℤ b)
divides-mul-right {M} b p =
    record { quotient = p.quotient *ℤ b; exact = ap (λ x. x *ℤ b) p.exact ∙ *ℤ-assoc (pos M) p.quotient b }

-- a multiple of K · M is one of M
pub divides_coarse : (K M : ℕ) {a : ℤ} → Divides (K * M) a → Divides M a
divides_coarse K M p =
    record {
      quotient = pos K *ℤ p.quotient;
      exact =
          p.exact ∙ *ℤ-assoc (pos K) (pos M) p.quotient ∙ *ℤ-left-comm (pos K) (pos M) p.quotient;
    }

pub divides_of_mod : (M a : ℕ) → a % M ≡ 0 → Divides M (pos a)
divides_of_mod M a e = record { quotient = pos (a / M); exact = ap pos (omega (arith, mod-add-div a M)) }

pub mod_of_divides : (M a : ℕ) → Divides M (pos a) → a % M ≡ 0
mod_of_divides M a p = at p.quotient p.exact
  where
    at : (q : ℤ) → pos a ≡ pos M *ℤ q → a % M ≡ 0
    at (pos q) e = let f : a ≡ M * q = cc in rw f (mul-mod_right M q)
    at (negsuc q) e =
        let f : a ≡ 0 = omega (arith, sub-cancel a 0 0 (M * suc q) (simp sub-push at e)) in
        rw f (zero-mod M)

pub divides-factorial : (M L k : ℕ) → Divides M (pos (factorial L)) → L ≤ k → Divides M (pos (factorial k))
unfolding factorial
divides-factorial M L zero p h = let e : L ≡ 0 = omega arith in rw e at p
divides-factorial M L (suc k) p h = by (eq-or-lt_of_le h) (divides-factorial M L k p)
  where
    by : (L ≡ suc k) ⊎ (L < suc k) → (L ≤ k → Divides M (pos (factorial k))) → Divides M (pos (factorial (suc k)))
    by (inl e) before = rw e at p
    by (inr l) before = divides-mul-left (pos (suc k)) (before (le_of_suc-le-suc l))

pub factorial-mod : (M j k : ℕ) → j ≤ k → factorial j % M ≡ 0 → factorial k % M ≡ 0
factorial-mod M j k h e = mod_of_divides M (factorial k) (divides-factorial M j k (divides_of_mod M (factorial j) e) h)
