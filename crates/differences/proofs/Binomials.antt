-- Sums over binomials. By Pascal's rule (n + 1 choose k) = (n choose k − 1) + (n choose k), the sum of (n + 1 choose k)·h(k) is that of
-- (n choose k)·h(k) and that of (n choose k)·h(k + 1). From this, by induction on n: the alternating sum of document 002, formula (7), and the
-- sum of (n choose k)·f(k), which is the n-fold sum of neighbours at 0.
use mathlib.Core.Path.{◌≡◌, refl, sym, ◌∙◌, ap, ap₂, fun_ext}
use Prim.Native.Nat.{ℕ, zero, suc, ◌+◌, ◌-◌, ◌<◌}
use native.Mathlib.Decide.{dec_lt}
use native.Mathlib.Nat.{suc-sub-suc}
use native.Mathlib.Omega.{arith}
use lib.IntN.{ℤ, pos, negsuc, neg_ℤ, ◌+ℤ◌, ◌*ℤ◌, +ℤ_idl, +ℤ_idr, *ℤ-zero, zero-*ℤ}
use Rattle.integers.proofs.Ring.{sub-push, sub_eq, ring₂, ring₃, +ℤ-opposite, *ℤ-idl, *ℤ-left-comm, *ℤ-distribl}
use Rattle.newton.specs.Difference.{difference, differences}
use Rattle.differences.specs.Neighbours.{combine, combined}
use Rattle.differences.specs.Table.{choose}
use Rattle.differences.specs.Statement.{sign, total, ClosedForm}
use Rattle.differences.proofs.Neighbours.{combined-linear, combined_suc}

choose-past : (n k : ℕ) → n < k → choose n k ≡ 0
unfolding choose
choose-past n zero h = absurd (omega arith)
choose-past zero (suc k) h = refl
choose-past (suc n) (suc k) h =
    ap₂ ◌+◌ (choose-past n k (omega arith)) (choose-past n (suc k) (omega arith))

pub total-equal : (n : ℕ) (g h : ℕ → ℤ) → ((k : ℕ) → k < n → g k ≡ h k) → total g n ≡ total h n
unfolding total
total-equal zero g h e = refl
total-equal (suc n) g h e =
    ap₂ ◌+ℤ◌ (total-equal n g h (λ k l. e k (omega arith))) (e n (omega arith))

total-scale : (n : ℕ) (s : ℤ) (g : ℕ → ℤ) → s *ℤ total g n ≡ total (λ (k : ℕ). s *ℤ g k) n
unfolding total
total-scale zero s g = *ℤ-zero s
total-scale (suc n) s g = *ℤ-distribl s (total g n) (g n) ∙ ap (λ (a : ℤ). a +ℤ s *ℤ g n) (total-scale n s g)

-- only the first term counts
total_first : (n : ℕ) (g : ℕ → ℤ) → ((k : ℕ) → g (suc k) ≡ pos 0) → total g (suc n) ≡ g 0
unfolding total
total_first zero g h = +ℤ_idl (g 0)
total_first (suc n) g h = ap₂ ◌+ℤ◌ (total_first n g h) (h n) ∙ +ℤ_idr (g 0)

-- the sum of (n choose k)·h(k) over the k below N
weighted : ℕ → (ℕ → ℤ) → ℕ → ℤ
weighted n h N = total (λ (k : ℕ). pos (choose n k) *ℤ h k) N

pascal :
    (n N : ℕ) (h : ℕ → ℤ)
    → weighted (suc n) h (suc N) ≡ weighted n h (suc N) +ℤ weighted n (λ (k : ℕ). h (suc k)) N
unfolding weighted total choose
pascal n zero h = sym (+ℤ_idr (pos 0 +ℤ pos 1 *ℤ h 0))
pascal n (suc N) h =
    ap (λ (a : ℤ). a +ℤ pos (choose n N + choose n (suc N)) *ℤ h (suc N)) (pascal n N h)
    ∙ regroup (weighted n h (suc N)) (weighted n (λ (k : ℕ). h (suc k)) N) (h (suc N)) (choose n N) (choose n (suc N))
  where
    regroup :
        (a b c : ℤ) (i j : ℕ)
        → (a +ℤ b) +ℤ pos (i + j) *ℤ c ≡ (a +ℤ pos j *ℤ c) +ℤ (b +ℤ pos i *ℤ c)
    regroup = ring₃ _ λ m n k l p q i j. simp sub-push (sub_eq _ _ _ _ (omega arith))

weighted-zero : (N : ℕ) (h : ℕ → ℤ) → 0 < N → weighted 0 h N ≡ h 0
unfolding weighted choose
weighted-zero zero h l = absurd (omega arith)
weighted-zero (suc N) h l =
    total_first N (λ (k : ℕ). pos (choose 0 k) *ℤ h k) (λ k. zero-*ℤ (h (suc k))) ∙ *ℤ-idl (h 0)

-- the n-fold sum of neighbours
pub combined_binomial :
    (n N : ℕ) (f : ℕ → ℤ) → n < N → total (λ (k : ℕ). pos (choose n k) *ℤ f k) N ≡ combined (pos 1) n f 0
unfolding weighted combined combine
combined_binomial zero N f l = weighted-zero N f l
combined_binomial (suc n) zero f l = absurd (omega arith)
combined_binomial (suc n) (suc N) f l =
    pascal n N f
    ∙ ap₂ ◌+ℤ◌ (combined_binomial n (suc N) f (omega arith)) (combined_binomial n N (λ (k : ℕ). f (suc k)) (omega arith))
    ∙ join (combined (pos 1) n f 0) (combined (pos 1) n (λ (k : ℕ). f (suc k)) 0)
    ∙ sym (combined-linear (pos 1) (pos 1) n (λ (k : ℕ). f (suc k)) f 0)
  where
    join : (a b : ℤ) → a +ℤ b ≡ b +ℤ pos 1 *ℤ a
    join = ring₂ _ λ m n k l. simp sub-push (sub_eq _ _ _ _ (omega arith))

pub differences-combined : (k : ℕ) (f : ℕ → ℤ) → differences k f ≡ combined (negsuc 0) k f
unfolding differences difference combined combine
differences-combined zero f = refl
differences-combined (suc k) f =
    differences-combined k (difference f)
    ∙ ap (combined (negsuc 0) k) (fun_ext λ x. sym (+ℤ-opposite (f (suc x)) (f x)))

-- the terms of the alternating sum for the p-fold difference at x
term : (ℕ → ℤ) → ℕ → ℕ → ℕ → ℤ
term f p x k = sign k *ℤ f (p - k + x)

combined_alternating :
    (p N : ℕ) (f : ℕ → ℤ) (x : ℕ) → p < N → combined (negsuc 0) p f x ≡ weighted p (term f p x) N
unfolding weighted term sign combined
combined_alternating zero N f x l =
    sym (weighted-zero N (term f 0 x) l ∙ *ℤ-idl (f (0 - 0 + x)) ∙ ap f (omega arith))
combined_alternating (suc p) zero f x l = absurd (omega arith)
combined_alternating (suc p) (suc N) f x l =
    combined_suc (negsuc 0) p f x
    ∙ ap₂ (λ (a b : ℤ). a +ℤ negsuc 0 *ℤ b)
    (combined_alternating p (suc N) f (suc x) (omega arith) ∙ total-equal (suc N) _ _ (λ k _. same k (dec_lt p k)))
    (combined_alternating p N f x (omega arith))
    ∙ ap (λ (a : ℤ). weighted p (term f (suc p) x) (suc N) +ℤ a)
    (total-scale N (negsuc 0) (λ (k : ℕ). pos (choose p k) *ℤ term f p x k)
    ∙ total-equal N _ _
    (λ k _.
    turn (pos (choose p k)) (sign k) (f (p - k + x))
    ∙ ap (λ (i : ℕ). pos (choose p k) *ℤ (neg_ℤ (sign k) *ℤ f (i + x))) (sym (suc-sub-suc p k))))
    ∙ sym (pascal p N (term f (suc p) x))
  where
    turn : (c s a : ℤ) → negsuc 0 *ℤ (c *ℤ (s *ℤ a)) ≡ c *ℤ (neg_ℤ s *ℤ a)
    turn = ring₃ _ λ m n k l i j. simp sub-push (sub_eq _ _ _ _ (omega arith))

    same : (k : ℕ) → Dec (p < k) → pos (choose p k) *ℤ term f p (suc x) k ≡ pos (choose p k) *ℤ term f (suc p) x k
    same k (yes h) = rw (choose-past p k h, zero-*ℤ (term f p (suc x) k), zero-*ℤ (term f (suc p) x k))
    same k (no h) =
        let e : p - k + suc x ≡ suc p - k + x = omega arith in
        ap (λ (i : ℕ). pos (choose p k) *ℤ (sign k *ℤ f i)) e

pub closed_form : ClosedForm
unfolding weighted term
closed_form f p x =
    ap (λ (g : ℕ → ℤ). g x) (differences-combined p f)
    ∙ combined_alternating p (suc p) f x (omega arith)
    ∙ total-equal (suc p) _ _ (λ k l. *ℤ-left-comm (pos (choose p k)) (sign k) (f (p - k + x)))
