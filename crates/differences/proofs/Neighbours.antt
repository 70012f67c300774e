-- The laws of `combined` and `mixed`. Both are linear, and what is done for different inputs, or with different factors, commutes. The factors s
-- and −s undo one another, mixed s x (k ↦ mixed (−s) k F) being F x: in one input, joining with the neighbour at −s and then at s leaves
-- x ↦ f(x + 1). The value at x depends on the vectors below the axes alone, where x is, so remainders carry over from these.
use mathlib.Core.Path.{◌≡◌, refl, sym, ◌∙◌, ap, fun_ext}
use mathlib.Core.List.{List, [], ◌∷◌}
use Prim.Native.Nat.{ℕ, zero, suc, ◌≤◌, ◌<◌}
use native.Mathlib.Omega.{arith}
use lib.IntN.{ℤ, neg_ℤ, ◌+ℤ◌, ◌*ℤ◌}
use Rattle.integers.specs.Modulo.{remainder}
use Rattle.integers.proofs.Ring.{sub-push, sub_eq, ring₃, +ℤ-swap, *ℤ-left-comm, *ℤ-distribl}
use Rattle.integers.proofs.Remainder.{remainder-add, remainder-mul}
use Rattle.places.specs.Places.{Below}
use Rattle.differences.specs.Neighbours.{combine, combined, mixed}

-- (a + r·b) + s·(c + r·d) = (a + s·c) + r·(b + s·d)
interchange : (r s a b c d : ℤ) → (a +ℤ r *ℤ b) +ℤ s *ℤ (c +ℤ r *ℤ d) ≡ (a +ℤ s *ℤ c) +ℤ r *ℤ (b +ℤ s *ℤ d)
interchange r s a b c d =
    ap (λ (z : ℤ). (a +ℤ r *ℤ b) +ℤ z) (*ℤ-distribl s c (r *ℤ d))
    ∙ +ℤ-swap a (r *ℤ b) (s *ℤ c) (s *ℤ (r *ℤ d))
    ∙ ap (λ (z : ℤ). (a +ℤ s *ℤ c) +ℤ (r *ℤ b +ℤ z)) (*ℤ-left-comm s r d)
    ∙ ap (λ (z : ℤ). (a +ℤ s *ℤ c) +ℤ z) (sym (*ℤ-distribl r b (s *ℤ d)))

pub combined-linear :
    (s r : ℤ) (k : ℕ) (f g : ℕ → ℤ) (x : ℕ)
    → combined s k (λ (y : ℕ). f y +ℤ r *ℤ g y) x ≡ combined s k f x +ℤ r *ℤ combined s k g x
unfolding combined combine
combined-linear s r zero f g x = refl
combined-linear s r (suc k) f g x =
    ap (λ (h : ℕ → ℤ). combined s k h x) (fun_ext λ y. interchange r s (f (suc y)) (g (suc y)) (f y) (g y))
    ∙ combined-linear s r k (combine s f) (combine s g) x

combined-shift : (s : ℤ) (k : ℕ) (f : ℕ → ℤ) (x : ℕ) → combined s k (λ (y : ℕ). f (suc y)) x ≡ combined s k f (suc x)
unfolding combined combine
combined-shift s zero f x = refl
combined-shift s (suc k) f x = combined-shift s k (combine s f) x

pub combined_suc :
    (s : ℤ) (k : ℕ) (f : ℕ → ℤ) (x : ℕ) → combined s (suc k) f x ≡ combined s k f (suc x) +ℤ s *ℤ combined s k f x
unfolding combined combine
combined_suc s k f x =
    combined-linear s s k (λ (y : ℕ). f (suc y)) f x ∙ ap (λ (a : ℤ). a +ℤ s *ℤ combined s k f x) (combined-shift s k f x)

mixed-linear :
    (s r : ℤ) (ks : List ℕ) (F G : List ℕ → ℤ)
    → mixed s ks (λ (x : List ℕ). F x +ℤ r *ℤ G x) ≡ mixed s ks F +ℤ r *ℤ mixed s ks G
unfolding mixed
mixed-linear s r [] F G = refl
mixed-linear s r (k ∷ ks) F G =
    ap (λ (h : ℕ → ℤ). combined s k h 0)
    (fun_ext λ t. mixed-linear s r ks (λ (xs : List ℕ). F (t ∷ xs)) (λ (xs : List ℕ). G (t ∷ xs)))
    ∙ combined-linear s r k
    (λ (t : ℕ). mixed s ks (λ (xs : List ℕ). F (t ∷ xs)))
    (λ (t : ℕ). mixed s ks (λ (xs : List ℕ). G (t ∷ xs)))
    0

mixed-combined :
    (s r : ℤ) (ks : List ℕ) (k : ℕ) (G : ℕ → List ℕ → ℤ)
    → mixed s ks (λ (x : List ℕ). combined r k (λ (t : ℕ). G t x) 0) ≡ combined r k (λ (t : ℕ). mixed s ks (G t)) 0
unfolding combined combine
mixed-combined s r ks zero G = refl
mixed-combined s r ks (suc k) G =
    mixed-combined s r ks k (λ (t : ℕ) (x : List ℕ). G (suc t) x +ℤ r *ℤ G t x)
    ∙ ap (λ (h : ℕ → ℤ). combined r k h 0) (fun_ext λ t. mixed-linear s r ks (G (suc t)) (G t))

-- the factors s and −s undo one another
module _ (s : ℤ) where
  combined_undo : (x : ℕ) (f : ℕ → ℤ) → combined s x (λ (k : ℕ). combined (neg_ℤ s) k f 0) 0 ≡ f x
  unfolding combined combine
  combined_undo zero f = refl
  combined_undo (suc x) f =
      ap (λ (h : ℕ → ℤ). combined s x h 0)
      (fun_ext λ k.
      ap (λ (a : ℤ). a +ℤ s *ℤ combined (neg_ℤ s) k f 0) (combined_suc (neg_ℤ s) k f 0)
      ∙ cancel s (combined (neg_ℤ s) k f 1) (combined (neg_ℤ s) k f 0)
      ∙ sym (combined-shift (neg_ℤ s) k f 0))
      ∙ combined_undo x (λ (y : ℕ). f (suc y))
    where
      cancel : (s a b : ℤ) → (a +ℤ neg_ℤ s *ℤ b) +ℤ s *ℤ b ≡ a
      cancel = ring₃ _ λ m n k l i j. simp sub-push (sub_eq _ _ _ _ (omega arith))

  pub mixed_undo : (x : List ℕ) (F : List ℕ → ℤ) → mixed s x (λ (k : List ℕ). mixed (neg_ℤ s) k F) ≡ F x
  unfolding mixed
  mixed_undo [] F = refl
  mixed_undo (x ∷ xs) F =
      ap (λ (h : ℕ → ℤ). combined s x h 0)
      (fun_ext λ t.
      mixed-combined s (neg_ℤ s) xs t (λ (u : ℕ) (ks : List ℕ). mixed (neg_ℤ s) ks (λ (ys : List ℕ). F (u ∷ ys)))
      ∙ ap (λ (h : ℕ → ℤ). combined (neg_ℤ s) t h 0) (fun_ext λ u. mixed_undo xs (λ (ys : List ℕ). F (u ∷ ys))))
      ∙ combined_undo x (λ (u : ℕ). F (u ∷ xs))

module _ (M : ℕ) (z : 0 < M) (s : ℤ) where
  pub join-remainder :
      (a b c d : ℤ) → remainder a M ≡ remainder c M → remainder b M ≡ remainder d M
      → remainder (a +ℤ s *ℤ b) M ≡ remainder (c +ℤ s *ℤ d) M
  join-remainder a b c d p q =
      remainder-add a (s *ℤ b) M z
      ∙ rw (remainder-mul s b M z, p, q, ← (remainder-mul s d M z)) (sym (remainder-add c (s *ℤ d) M z))

  pub combined-remainder :
      (k : ℕ) (f g : ℕ → ℤ) → ((t : ℕ) → t ≤ k → remainder (f t) M ≡ remainder (g t) M)
      → remainder (combined s k f 0) M ≡ remainder (combined s k g 0) M
  unfolding combined combine
  combined-remainder zero f g h = h 0 (omega arith)
  combined-remainder (suc k) f g h =
      combined-remainder k (combine s f) (combine s g)
      (λ t l. join-remainder (f (suc t)) (f t) (g (suc t)) (g t) (h (suc t) (omega arith)) (h t (omega arith)))

  pub mixed-remainder :
      (us x : List ℕ) (F G : List ℕ → ℤ) → Below us x
      → ((y : List ℕ) → Below us y → remainder (F y) M ≡ remainder (G y) M)
      → remainder (mixed s x F) M ≡ remainder (mixed s x G) M
  unfolding mixed
  mixed-remainder [] [] F G b h = h [] b
  mixed-remainder [] (x ∷ xs) F G b h = absurd b
  mixed-remainder (u ∷ us) [] F G b h = absurd b
  mixed-remainder (u ∷ us) (x ∷ xs) F G b h =
      combined-remainder x
      (λ (t : ℕ). mixed s xs (λ (ys : List ℕ). F (t ∷ ys)))
      (λ (t : ℕ). mixed s xs (λ (ys : List ℕ). G (t ∷ ys)))
      (λ t l.
      mixed-remainder us xs (λ (ys : List ℕ). F (t ∷ ys)) (λ (ys : List ℕ). G (t ∷ ys)) b.1
      (λ ys c. h (t ∷ ys) (omega (arith, b.0), c)))
