-- Words above the lowest ones, entry by entry.
-- Assumes nothing.
use Rattle.std.proofs.Common.{◌≡◌, ℕ, zero, suc, ◌+◌, ◌-◌, ◌%◌, ◌^◌, ◌<◌, ◌≤◌, List, [], ◌∷◌, ◌++◌, map, length, get_or, take, set, replicate, ℤ, pos, ◌+ℤ◌, sym, refl, ap, ◌∙◌, ap₂, mod-eq_of_lt, arith, length-take, get_or-take, pow_pos}
use native.Mathlib.Decide.{dec_lt}
use native.Mathlib.Nat.{add-mod}
use lib.ListN.{length-map, get_or-eq_default}
use Rattle.integers.proofs.Remainder.{remainder_pos}
use Rattle.places.specs.Places.{digits_at}
use Rattle.places.specs.Vectors.{counted, vector_at}
use Rattle.places.proofs.Places.{length_digits}
use Rattle.sizes.specs.Padded.{padded}
use Rattle.sizes.specs.Sizes.{max_inputs}
use Rattle.words.specs.Words.{word}
use Rattle.words.proofs.Congruence.{word-add, word-most}
use Rattle.vectors.specs.Vectors.{raised, held_at, Arrays}

pub length-raised : (lows ts : List ℕ) → length lows ≡ length ts → length (raised lows ts) ≡ length lows
unfolding raised
length-raised [] ts e = refl
length-raised (f ∷ fs) [] e = absurd (omega arith)
length-raised (f ∷ fs) (t ∷ ts) e = ap suc (length-raised fs ts (omega arith))

pub raised-entry :
    (lows ts : List ℕ) (i : ℕ) → length lows ≡ length ts → i < length lows → get_or (raised lows ts) i 0 ≡ (get_or lows i 0 + get_or ts i 0) % 2 ^ 64
unfolding raised
raised-entry [] ts i e h = absurd (omega arith)
raised-entry (f ∷ fs) [] i e h = absurd (omega arith)
raised-entry (f ∷ fs) (t ∷ ts) zero e h = refl
raised-entry (f ∷ fs) (t ∷ ts) (suc i) e h = raised-entry fs ts i (omega arith) (omega arith)

pub raised-set :
    (lows ts : List ℕ) (i a : ℕ) → length lows ≡ length ts → set (raised lows ts) i ((get_or lows i 0 + a) % 2 ^ 64) ≡ raised lows (set ts i a)
unfolding raised
raised-set [] ts i a e = refl
raised-set (f ∷ fs) [] i a e = absurd (omega arith)
raised-set (f ∷ fs) (t ∷ ts) zero a e = refl
raised-set (f ∷ fs) (t ∷ ts) (suc i) a e = ap (λ l. (f + t) % 2 ^ 64 ∷ l) (raised-set fs ts i a (omega arith))

-- no counts at all
pub raised-zeros : (lows : List ℕ) → ((i : ℕ) → get_or lows i 0 < 2 ^ 64) → raised lows (replicate (length lows) 0) ≡ lows
unfolding raised
raised-zeros [] h = refl
raised-zeros (f ∷ fs) h = ap₂ (λ a l. a ∷ l) (mod-eq_of_lt (omega (arith, h 0)) ∙ omega arith) (raised-zeros fs (λ i. h (suc i)))

-- counts below 2^64 that give the same words are the same
pub raised-only :
    (lows ss ts : List ℕ) → length lows ≡ length ss → length lows ≡ length ts → ((i : ℕ) → get_or ss i 0 < 2 ^ 64) → ((i : ℕ) → get_or ts i 0 < 2 ^ 64) →
    raised lows ss ≡ raised lows ts → ss ≡ ts
unfolding raised
raised-only [] [] [] e k hs ht q = refl
raised-only [] [] (t ∷ ts) e k hs ht q = absurd (omega arith)
raised-only [] (s ∷ ss) ts e k hs ht q = absurd (omega arith)
raised-only (f ∷ fs) [] ts e k hs ht q = absurd (omega arith)
raised-only (f ∷ fs) (s ∷ ss) [] e k hs ht q = absurd (omega arith)
raised-only (f ∷ fs) (s ∷ ss) (t ∷ ts) e k hs ht q =
    ap₂ (λ a l. a ∷ l) (omega (arith, hs 0, ht 0, head-same q)) (raised-only fs ss ts (omega arith) (omega arith) (λ i. hs (suc i)) (λ i. ht (suc i)) (tail-same q))
  where
    head-same : {a b : ℕ} {x y : List ℕ} → a ∷ x ≡ b ∷ y → a ≡ b
    head-same e = cc

    tail-same : {a b : ℕ} {x y : List ℕ} → a ∷ x ≡ b ∷ y → x ≡ y
    tail-same e = cc

-- the words of integers counted from the lowest
raised-words : (los : List ℤ) (ts : List ℕ) → length los ≡ length ts → raised (map word los) ts ≡ map word (counted los ts)
unfolding raised counted
raised-words [] ts e = refl
raised-words (lo ∷ los) [] e = absurd (omega arith)
raised-words (lo ∷ los) (t ∷ ts) e =
    ap₂ (λ a l. a ∷ l) (above lo t) (raised-words los ts (omega arith))
  where
    above : (lo : ℤ) (t : ℕ) → (word lo + t) % 2 ^ 64 ≡ word (lo +ℤ pos t)
    above lo t = add-mod (word lo) t (2 ^ 64) ∙ ap₂ (λ a b. (a + b) % 2 ^ 64) (mod-eq_of_lt (word-most lo)) (sym (remainder_pos t (2 ^ 64))) ∙ word-add lo (pos t)

raised-append :
    (fs ts gs us : List ℕ) → length fs ≡ length ts → raised (fs ++ gs) (ts ++ us) ≡ raised fs ts ++ raised gs us
unfolding raised
raised-append [] [] gs us e = refl
raised-append [] (t ∷ ts) gs us e = absurd (omega arith)
raised-append (f ∷ fs) [] gs us e = absurd (omega arith)
raised-append (f ∷ fs) (t ∷ ts) gs us e = ap (λ l. (f + t) % 2 ^ 64 ∷ l) (raised-append fs ts gs us (omega arith))

zeros-raised : (n : ℕ) → raised (replicate n 0) (replicate n 0) ≡ replicate n 0
unfolding raised
zeros-raised zero = refl
zeros-raised (suc n) = ap (λ l. 0 ∷ l) (zeros-raised n)

pub length-counted : (los : List ℤ) (ts : List ℕ) → length los ≡ length ts → length (counted los ts) ≡ length los
unfolding counted
length-counted [] ts e = refl
length-counted (lo ∷ los) [] e = absurd (omega arith)
length-counted (lo ∷ los) (t ∷ ts) e = ap suc (length-counted los ts (omega arith))

pub held-integers :
    (los : List ℤ) (us : List ℕ) (p : ℕ) → length los ≡ length us → held_at (padded (map word los)) us p ≡ padded (map word (vector_at los us p))
unfolding held_at vector_at
held-integers los us p e =
    let ts = digits_at us p in
    let l : length los ≡ length ts = e ∙ sym (length_digits us p) in
    ap (λ k. raised (padded (map word los)) (ts ++ replicate (max_inputs - k) 0)) (sym l ∙ sym (length-map los word))
    ∙ raised-append (map word los) ts _ _ (length-map los word ∙ l)
    ∙ ap₂ (λ a b. a ++ b) (raised-words los ts l) (zeros-raised (max_inputs - length (map word los)))
    ∙ ap (λ k. map word (counted los ts) ++ replicate (max_inputs - k) 0)
    (length-map los word ∙ sym (length-counted los ts l) ∙ sym (length-map (counted los ts) word))

-- the entries of a part of a list of words are words
pub take-small : (l : List ℕ) (n : ℕ) → ((j : ℕ) → get_or l j 0 < 2 ^ 64) → (j : ℕ) → get_or (take n l) j 0 < 2 ^ 64
take-small l n h j =
    elim (dec_lt j n) [
      | yes k ↦ rw (get_or-take n l j 0 k) (h j)
      | no k ↦ rw (get_or-eq_default (take n l) 0 {n = j} (rw length-take (omega arith))) (pow_pos 64)
    ]

-- what the machine holds of lows and of the first d axes
pub arrays :
    (lows axes : List ℕ) (d : ℕ) → length lows ≡ max_inputs → length axes ≡ max_inputs → d ≤ max_inputs → ((j : ℕ) → get_or lows j 0 < 2 ^ 64) →
    ((j : ℕ) → get_or axes j 0 < 2 ^ 64) → Arrays lows (take d axes)
arrays lows axes d l a h words small =
    record { each = l; words = words; few = rw length-take (omega arith); axes = take-small axes d small }
