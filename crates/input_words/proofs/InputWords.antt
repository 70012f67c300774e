-- Words and values undo one another: in two's complement a word below 2^63 is its value, and from there on it is 2^64 more, as the word of a
-- negative number is; and an input of up to 64 bits has no value outside of these. Of lists of words the same follows by recursion.
-- Assumes nothing.
use mathlib.Core.Bool.{Bool, true, false, cond, ◌&&◌}
use mathlib.Core.List.{List, [], ◌∷◌, ◌++◌, map}
use mathlib.Core.Logic.{◌↔◌}
use mathlib.Core.Path.{◌≡◌, refl, sym, ◌∙◌, ap, ap₂, subst}
use Prim.Native.Nat.{ℕ, zero, suc, ◌+◌, ◌-◌, ◌%◌, ◌^◌, ◌≤◌, ◌<◌}
use native.Mathlib.Decide.{dec_lt}
use native.Mathlib.Nat.{mod-eq_of_lt}
use native.Mathlib.Omega.{arith}
use borrow.Author.Tests.{lt-ltb, le-ltb}
use lib.Dec.{T, ltb, leb, leb→le, leb-zero}
use lib.IntN.{ℤ, pos, negsuc, neg_ℤ, ◌+ℤ◌, ◌-ℤ◌, +ℤ_idl}
use lib.ListN.{length, get_or, take}
use lib.Pow.{pow_pos, pow_mono}
use lib.Signed.{mag, le_z, ◌≤ℤ◌}
use mir.Facts.{and_yes}
use Rattle.formats.specs.Formats.{lowest, highest, InFormat, FullWidth}
use Rattle.formats.specs.declared.Format.{Format}
use Rattle.formats.proofs.Ends.{halves}
use Rattle.integers.specs.Modulo.{Divides, remainder}
use Rattle.integers.proofs.Divisibility.{divides_neg, divides_coarse, divides_self}
use Rattle.integers.proofs.Remainder.{remainder_pos, congruent→equal}
use Rattle.integers.proofs.Ring.{sub-push, sub_eq, ring₂}
use Rattle.words.specs.Words.{word}
use Rattle.words.proofs.Congruence.{word_pos, word-add, power-split}
use Rattle.input_words.proofs.Complement.{complement_negsuc}
use Rattle.input_words.specs.InputWords.{signed_value, value_of, values_of, Usable, in_format, WordsValues}

-- 2^64 less than a number below it
less : (w M : ℕ) → w < M → pos w -ℤ pos M ≡ negsuc (M - suc w)
less w M h = simp sub-push (sub_eq _ _ _ _ (omega arith))

-- the value in two's complement, as a natural number or a negative one
pub signed-natural : (w : ℕ) → w < 2 ^ 63 → signed_value w ≡ pos w
unfolding signed_value
signed-natural w h = rw (lt-ltb w (2 ^ 63) h)

pub signed-negative : (w : ℕ) → 2 ^ 63 ≤ w → w < 2 ^ 64 → signed_value w ≡ negsuc (2 ^ 64 - suc w)
unfolding signed_value
signed-negative w h k = rw (le-ltb w (2 ^ 63) h) (less w (2 ^ 64) k)

-- the word of a negative number
pub word-negative : (a : ℕ) → a < 2 ^ 64 → word (negsuc a) ≡ 2 ^ 64 - suc a
unfolding remainder
word-negative a h = rw (mod-eq_of_lt h)

-- the value by the mark of its input
pub value-signed : (f : Format) (w : ℕ) → f.signed ≡ true → value_of f w ≡ signed_value w
unfolding value_of
value-signed f w e = rw e

pub value-unsigned : (f : Format) (w : ℕ) → f.signed ≡ false → value_of f w ≡ pos w
unfolding value_of
value-unsigned f w e = rw e

by-mark : (f : Format) (P : Type 0) → (f.signed ≡ true → P) → (f.signed ≡ false → P) → P
by-mark f P yes-signed not-signed = cases f.signed refl
  where
    cases : (s : Bool) → f.signed ≡ s → P
    cases true e = yes-signed e
    cases false e = not-signed e

written : (f : Format) (w : ℕ) → w < 2 ^ 64 → word (value_of f w) ≡ w
written f w h = by-mark f _ (λ e. rw (value-signed f w e) of_signed) (λ e. rw (value-unsigned f w e) (word_pos w h))
  where
    of_signed : word (signed_value w) ≡ w
    of_signed =
        elim (dec_lt w (2 ^ 63)) [
          | yes l ↦ rw (signed-natural w l) (word_pos w h)
          | no l ↦ rw (signed-negative w (omega arith) h) (word-negative (2 ^ 64 - suc w) (omega arith) ∙ omega arith)
        ]

-- the word of an integer that 64 bits hold gives that integer
pub signed_word : (v : ℤ) → mag v < 2 ^ 63 → signed_value (word v) ≡ v
signed_word (pos a) h = rw (word_pos a (omega arith)) (signed-natural a h)
signed_word (negsuc a) h =
    rw (word-negative a (omega arith)) (signed-negative (2 ^ 64 - suc a) (omega arith) (omega arith) ∙ ap negsuc (omega arith))

-- the ends of an input, without a sum
negative : (u : ℕ) → 0 < u → neg_ℤ (pos u) ≡ negsuc (u - 1)
negative u h = simp sub-push (sub_eq _ _ _ _ (omega arith))

upper : (u w k : ℕ) → w ≡ u + u → k ≤ u → neg_ℤ (pos u) +ℤ pos (w - k) ≡ pos (u - k)
upper u w k e h = simp sub-push (sub_eq _ _ _ _ (omega arith))

pub lowest-signed : (f : Format) → f.signed ≡ true → lowest f ≡ negsuc (2 ^ (f.length - 1) - 1)
unfolding lowest
lowest-signed f e = rw e (negative (2 ^ (f.length - 1)) (pow_pos (f.length - 1)))

pub highest-signed : (f : Format) → f.signed ≡ true → 1 ≤ f.length → highest f ≡ pos (2 ^ (f.length - 1) - 1)
unfolding highest lowest
highest-signed f e h = rw e (upper (2 ^ (f.length - 1)) (2 ^ f.length) 1 (halves f.length h) (pow_pos (f.length - 1)))

pub lowest-unsigned : (f : Format) → f.signed ≡ false → lowest f ≡ pos 0
unfolding lowest
lowest-unsigned f e = rw e

pub highest-unsigned : (f : Format) → f.signed ≡ false → highest f ≡ pos (2 ^ f.length - 1)
unfolding highest lowest
highest-unsigned f e = rw e (+ℤ_idl (pos (2 ^ f.length - 1)))

pub half_most : (f : Format) → Usable f → 2 ^ (f.length - 1) ≤ 2 ^ 63
half_most f u = let h : f.length - 1 ≤ 63 = omega arith in pow_mono h

-- the values of a signed input have room in 64 bits
signed-fits : (f : Format) → f.signed ≡ true → Usable f → (v : ℤ) → InFormat f v → mag v < 2 ^ 63
signed-fits f e u v i =
    within v
    (subst (λ z. z ≤ℤ v) (lowest-signed f e) i.low)
    (subst (λ z. v ≤ℤ z) (highest-signed f e u.low) i.high)
  where
    within : (v : ℤ) → negsuc (2 ^ (f.length - 1) - 1) ≤ℤ v → v ≤ℤ pos (2 ^ (f.length - 1) - 1) → mag v < 2 ^ 63
    within (pos a) l h = omega (arith, half_most f u, pow_pos (f.length - 1), leb→le a (2 ^ (f.length - 1) - 1) h.le)
    within (negsuc a) l h = omega (arith, half_most f u, pow_pos (f.length - 1), leb→le a (2 ^ (f.length - 1) - 1) l.le)

-- and those of an unsigned one are their own words
unsigned-word : (f : Format) → f.signed ≡ false → Usable f → (v : ℤ) → InFormat f v → pos (word v) ≡ v
unsigned-word f e u v i =
    within v
    (subst (λ z. z ≤ℤ v) (lowest-unsigned f e) i.low)
    (subst (λ z. v ≤ℤ z) (highest-unsigned f e) i.high)
  where
    most : 2 ^ f.length ≤ 2 ^ 64
    most = pow_mono u.high

    within : (v : ℤ) → pos 0 ≤ℤ v → v ≤ℤ pos (2 ^ f.length - 1) → pos (word v) ≡ v
    within (pos a) l h = ap pos (word_pos a (omega (arith, most, pow_pos f.length, leb→le a (2 ^ f.length - 1) h.le)))
    within (negsuc a) l h = absurd l.le

read : (f : Format) → Usable f → (v : ℤ) → InFormat f v → value_of f (word v) ≡ v
read f u v i =
    by-mark f _ (λ e. value-signed f (word v) e ∙ signed_word v (signed-fits f e u v i))
    (λ e. value-unsigned f (word v) e ∙ unsigned-word f e u v i)

both : (p q : Bool) → ((p && q) ≡ true) ↔ (T p × T q)
both p q = (λ e. and_yes p q (subst T (sym e) tt), λ t. passed p q t.0 t.1)
  where
    passed : (p q : Bool) → T p → T q → (p && q) ≡ true
    passed true true s t = refl
    passed true false s t = absurd t
    passed false q s t = absurd s

test : (f : Format) (w : ℕ) → (in_format f w ≡ true) ↔ InFormat f (value_of f w)
unfolding in_format
test f w =
    let t = both (le_z (lowest f) (value_of f w)) (le_z (value_of f w) (highest f)) in
    (λ e. record { low = record { le = (t.0 e).0 }; high = record { le = (t.0 e).1 } }, λ i. t.1 (i.low.le, i.high.le))

pub words_values : WordsValues
words_values = record { written = written; read = read; test = test }

-- the test by the mark: −1 less the lowest value of a signed input is its highest
pub in_signed :
    (f : Format) (w : ℕ) →
    f.signed ≡ true → 1 ≤ f.length →
    in_format f w ≡ (le_z (lowest f) (signed_value w) && le_z (signed_value w) (negsuc 0 -ℤ lowest f))
unfolding in_format
in_signed f w e h = rw (value-signed f w e, highest-signed f e h, lowest-signed f e, complement_negsuc (2 ^ (f.length - 1) - 1))

pub in_unsigned : (f : Format) (w : ℕ) → f.signed ≡ false → in_format f w ≡ leb w (2 ^ f.length - 1)
unfolding in_format
in_unsigned f w e = rw (value-unsigned f w e, highest-unsigned f e, lowest-unsigned f e, leb-zero w)

-- a vector by its entries, and its length
pub values-entry :
    (fs : List Format) (ws : List ℕ) (i : ℕ) (f : Format)
    → i < length fs → i < length ws → get_or (values_of fs ws) i (pos 0) ≡ value_of (get_or fs i f) (get_or ws i 0)
unfolding values_of
values-entry [] ws i f h k = absurd (omega arith)
values-entry (g ∷ fs) [] i f h k = absurd (omega arith)
values-entry (g ∷ fs) (w ∷ ws) zero f h k = refl
values-entry (g ∷ fs) (w ∷ ws) (suc i) f h k = values-entry fs ws i f (omega arith) (omega arith)

pub values_length : (fs : List Format) (ws : List ℕ) → length fs ≤ length ws → length (values_of fs ws) ≡ length fs
unfolding values_of
values_length [] ws h = refl
values_length (f ∷ fs) [] h = absurd (omega arith)
values_length (f ∷ fs) (w ∷ ws) h = ap suc (values_length fs ws (omega arith))

pub values-words :
    (fs : List Format) (x : List ℤ) →
    ((i : ℕ) (f : Format) → i < length fs → Usable (get_or fs i f)) → FullWidth fs x → values_of fs (map word x) ≡ x
unfolding values_of
values-words [] [] u h = refl
values-words [] (v ∷ x) u h = absurd h
values-words (f ∷ fs) [] u h = absurd h
values-words (f ∷ fs) (v ∷ x) u h =
    ap₂ ◌∷◌ (read f (u 0 f (omega arith)) v h.0) (values-words fs x (λ i g l. u (suc i) g (omega arith)) h.1)

-- words past those of the inputs give no values
pub values-front : (fs : List Format) (ws vs : List ℕ) → length fs ≡ length ws → values_of fs (ws ++ vs) ≡ values_of fs ws
unfolding values_of
values-front [] ws vs e = refl
values-front (f ∷ fs) [] vs e = absurd (omega arith)
values-front (f ∷ fs) (w ∷ ws) vs e = ap (λ x. value_of f w ∷ x) (values-front fs ws vs (omega arith))

pub values-take : (fs : List Format) (ws : List ℕ) → values_of fs (take (length fs) ws) ≡ values_of fs ws
unfolding values_of
values-take [] ws = refl
values-take (f ∷ fs) [] = refl
values-take (f ∷ fs) (w ∷ ws) = ap (λ x. value_of f w ∷ x) (values-take fs ws)

pub words-values :
    (fs : List Format) (ws : List ℕ) →
    length fs ≡ length ws → ((i : ℕ) → get_or ws i 0 < 2 ^ 64) → map word (values_of fs ws) ≡ ws
unfolding values_of
words-values [] [] e h = refl
words-values [] (w ∷ ws) e h = absurd (omega arith)
words-values (f ∷ fs) [] e h = absurd (omega arith)
words-values (f ∷ fs) (w ∷ ws) e h = ap₂ ◌∷◌ (written f w (h 0)) (words-values fs ws (omega arith) (λ i. h (suc i)))

-- the words of the values in their order are the sums with that of the lowest
pub value-word-lowest : (f : Format) (t : ℕ) → (word (lowest f) + t) % 2 ^ 64 ≡ word (lowest f +ℤ pos t)
value-word-lowest f t = let e = remainder_pos t (2 ^ 64) in omega arith ∙ word-add (lowest f) (pos t)

-- a number is congruent to its value modulo every power of 2 up to 2^64, which divides 2^64
less_congruent : (w W M : ℕ) → 0 < M → Divides M (pos W) → remainder (pos w -ℤ pos W) M ≡ remainder (pos w) M
less_congruent w W M h d = congruent→equal (pos w -ℤ pos W) (pos w) M h (subst (Divides M) (sym (gone (pos w) (pos W))) (divides_neg d))
  where
    gone : (a b : ℤ) → (a -ℤ b) -ℤ a ≡ neg_ℤ b
    gone = ring₂ _ λ m n k l. simp sub-push (sub_eq _ _ _ _ (omega arith))

power_divides : (m : ℕ) → m ≤ 64 → Divides (2 ^ m) (pos (2 ^ 64))
power_divides m h =
    divides_coarse (2 ^ (64 - m)) (2 ^ m) (subst (λ W. Divides W (pos (2 ^ 64))) (power-split 64 m h) (divides_self (2 ^ 64)))

pub value_congruent : (f : Format) (w m : ℕ) → m ≤ 64 → remainder (value_of f w) (2 ^ m) ≡ w % 2 ^ m
unfolding value_of signed_value
value_congruent f w m h = by_sign f.signed ∙ remainder_pos w (2 ^ m)
  where
    by_half : (q : Bool) → remainder (cond q (pos w) (pos w -ℤ pos (2 ^ 64))) (2 ^ m) ≡ remainder (pos w) (2 ^ m)
    by_half true = refl
    by_half false = less_congruent w (2 ^ 64) (2 ^ m) (pow_pos m) (power_divides m h)

    by_sign : (s : Bool) → remainder (cond s (signed_value w) (pos w)) (2 ^ m) ≡ remainder (pos w) (2 ^ m)
    by_sign true = by_half (ltb w (2 ^ 63))
    by_sign false = refl
