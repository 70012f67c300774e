-- The rounds over one block of u layers of w entries. Round r + 1 starts at layer r + 1. From there on it adds s times the layer before, which makes
-- r-fold combinations into (r + 1)-fold ones; the layers before are done already. Words stand for integers modulo 2^64, so each
-- entry may be taken for the exact value.
use Rattle.std.proofs.Common.{◌≡◌, ℕ, zero, suc, ◌+◌, ◌-◌, ◌*◌, ◌^◌, ◌<◌, ◌≤◌, min, List, length, get_or, set, ℤ, pos, ◌+ℤ◌, ◌*ℤ◌, sym, refl, ap, ◌∙◌, ap₂, mul-le-mul_right, zero-add, arith, pow_pos, le-ltb, lt-ltb}
use native.Mathlib.Decide.{dec_lt}
use native.Mathlib.Nat.{zero-min, sub-zero}
use Rattle.differences.specs.Neighbours.{combined}
use Rattle.differences.proofs.Neighbours.{combined_suc, join-remainder}
use Rattle.lists.proofs.Tabulate.{length-tabulate, get_d_tabulate}
use Rattle.words.specs.Words.{word}
use Rattle.words.proofs.Congruence.{word_pos, word-most}
use Rattle.rounds.specs.Passes.{cell, rounded, lines, column, whole, partly, passed}
use Rattle.rounds.proofs.Splice.{splice, splice_end, splice-same, splice-down, get_or-splice-front}
use Rattle.rounds.proofs.Lines.{length-lines, get_or-lines, lines_unique}

pub word-twice : (z : ℤ) → word (pos (word z)) ≡ word z
word-twice z = word_pos (word z) (word-most z)

module _ (s : ℤ) (w from : ℕ) (l : List ℕ) where
  pub length-rounded : length (rounded s w from l) ≡ length l
  unfolding rounded
  length-rounded = length-tabulate _ 0 (length l)

  pub rounded-front : (q : ℕ) → q < from → q < length l → get_or (rounded s w from l) q 0 ≡ get_or l q 0
  unfolding rounded
  rounded-front q h i = get_d_tabulate _ 0 (length l) 0 q i ∙ rw (zero-add q, lt-ltb q from h)

  pub rounded_rest :
      (q : ℕ) → from ≤ q → q < length l
      → get_or (rounded s w from l) q 0 ≡ word (cell l q +ℤ s *ℤ cell l (q - w))
  unfolding rounded
  rounded_rest q h i = get_d_tabulate _ 0 (length l) 0 q i ∙ rw (zero-add q, le-ltb q from h)

  -- a loop over the entries, the last first
  pub round_start : splice (length l) l (rounded s w from l) ≡ l
  round_start = splice_end (length l) l (rounded s w from l) (omega arith) (omega (arith, length-rounded))

  pub round_step :
      (q : ℕ) (cells : List ℕ) → w ≤ from → from ≤ q → q < length l → cells ≡ splice (suc q) l (rounded s w from l)
      → set cells q (word (cell cells q +ℤ s *ℤ cell cells (q - w))) ≡ splice q l (rounded s w from l)
  round_step q cells h g i e =
      let R = rounded s w from l in
      rw e
      (ap₂ (λ (x y : ℕ). set (splice (suc q) l R) q (word (pos x +ℤ s *ℤ pos y)))
      (get_or-splice-front (suc q) l R q (omega arith) (omega arith))
      (get_or-splice-front (suc q) l R (q - w) (omega arith) (omega arith))
      ∙ ap (set (splice (suc q) l R) q) (sym (rounded_rest q g i))
      ∙ splice-down q l R (sym length-rounded) i)

  pub round_end : (q : ℕ) → q ≤ from → q ≤ length l → splice q l (rounded s w from l) ≡ rounded s w from l
  round_end q g h =
      splice-same q l (rounded s w from l) (sym length-rounded) h
      (λ i j. sym (rounded-front i (omega arith) (omega arith)))

module _ (s : ℤ) (u w : ℕ) (zu : 0 < u) (zw : 0 < w) (l : List ℕ) where
  pub after-start : ((q : ℕ) → get_or l q 0 < 2 ^ 64) → lines u w (partly s 0) l ≡ l
  unfolding combined column
  after-start h =
      sym
      (lines_unique u w (partly s 0) l l refl zu zw
      (λ b k p hk hp i. rw (zero-min k, sub-zero k) (sym (word_pos _ (h ((b * u + k) * w + p))))))

  -- layer k, of the only block, before the layers of the round
  after_front :
      (r b k p : ℕ) → k < u → p < w → (b * u + k) * w + p < length l → b * u * w ≡ 0 → k ≤ r
      → get_or (rounded s w (suc r * w) (lines u w (partly s r) l)) ((b * u + k) * w + p) 0
      ≡ word (partly s (suc r) (column u w l b p) k)
  after_front r b k p hk hp i z h =
      let m : min r k ≡ min (suc r) k = omega arith in
      rounded-front s w (suc r * w) (lines u w (partly s r) l) ((b * u + k) * w + p)
      (omega (arith, mul-le-mul_right w h))
      (omega (arith, length-lines u w (partly s r) l))
      ∙ get_or-lines u w (partly s r) l b k p hk hp i
      ∙ ap (λ (j : ℕ). word (combined s j (column u w l b p) (k - j))) m

  -- layer k + 1, among the layers of the round
  after-rest :
      (r b k p : ℕ) → suc k < u → p < w → (b * u + suc k) * w + p < length l → b * u * w ≡ 0 → r ≤ k
      → get_or (rounded s w (suc r * w) (lines u w (partly s r) l)) ((b * u + suc k) * w + p) 0
      ≡ word (partly s (suc r) (column u w l b p) (suc k))
  after-rest r b k p hk hp i z h =
      let f = column u w l b p in
      let back : (b * u + suc k) * w + p - w ≡ (b * u + k) * w + p = omega arith in
      rounded_rest s w (suc r * w) (lines u w (partly s r) l) ((b * u + suc k) * w + p)
      (omega (arith, mul-le-mul_right w h))
      (omega (arith, length-lines u w (partly s r) l))
      ∙ ap₂ (λ (x y : ℕ). word (pos x +ℤ s *ℤ pos y))
      (get_or-lines u w (partly s r) l b (suc k) p hk hp i
      ∙ ap₂ (λ (x y : ℕ). word (combined s x f y)) (omega arith) (omega arith))
      (ap (λ (q : ℕ). get_or (lines u w (partly s r) l) q 0) back
      ∙ get_or-lines u w (partly s r) l b k p (omega arith) hp (omega arith)
      ∙ ap₂ (λ (x y : ℕ). word (combined s x f y)) (omega arith) (omega arith))
      ∙ join-remainder (2 ^ 64) (pow_pos 64) s
      (pos (word (combined s r f (suc (k - r))))) (pos (word (combined s r f (k - r))))
      (combined s r f (suc (k - r))) (combined s r f (k - r))
      (word-twice (combined s r f (suc (k - r)))) (word-twice (combined s r f (k - r)))
      ∙ ap word (sym (combined_suc s r f (k - r)))
      ∙ ap₂ (λ (x y : ℕ). word (combined s x f y)) (omega arith) (omega arith)

  pub after-step :
      (r : ℕ) → length l ≡ u * w
      → rounded s w (suc r * w) (lines u w (partly s r) l) ≡ lines u w (partly s (suc r)) l
  after-step r e =
      lines_unique u w (partly s (suc r)) l
      (rounded s w (suc r * w) (lines u w (partly s r) l))
      (length-rounded s w (suc r * w) (lines u w (partly s r) l) ∙ length-lines u w (partly s r) l)
      zu zw
      (λ b k p hk hp i. entry b k p hk hp i (first b k p i) (dec_lt r k))
    where
      first : (b k p : ℕ) → (b * u + k) * w + p < length l → b * u * w ≡ 0
      first zero k p i = omega arith
      first (suc b) k p i = absurd (omega arith)

      entry :
          (b k p : ℕ) → k < u → p < w → (b * u + k) * w + p < length l → b * u * w ≡ 0 → Dec (r < k)
          → get_or (rounded s w (suc r * w) (lines u w (partly s r) l)) ((b * u + k) * w + p) 0
          ≡ word (partly s (suc r) (column u w l b p) k)
      entry b zero p hk hp i z (yes h) = absurd (omega arith)
      entry b (suc k) p hk hp i z (yes h) = after-rest r b k p hk hp i z (omega arith)
      entry b k p hk hp i z (no h) = after_front r b k p hk hp i z (omega arith)

  pub after_end : (r : ℕ) → u ≤ suc r → lines u w (partly s r) l ≡ passed s u w l
  unfolding passed
  after_end r h =
      lines_unique u w (whole s) l (lines u w (partly s r) l) (length-lines u w (partly s r) l) zu zw
      (λ b k p hk hp i.
      let m : min r k ≡ k = omega arith in
      get_or-lines u w (partly s r) l b k p hk hp i
      ∙ ap₂ (λ (a j : ℕ). word (combined s a (column u w l b p) j)) m (omega arith))
