-- The counts that a vector holds above the lowest words are the digits of its place: each weighs the size of the axes after it, so the write of
-- one entry moves the place by that weight. By recursion on the axes.
-- Assumes nothing.
use Rattle.std.proofs.Common.{◌≡◌, ℕ, zero, suc, ◌+◌, ◌-◌, ◌*◌, ◌%◌, ◌^◌, ◌<◌, List, [], ◌∷◌, length, get_or, take, drop, set, replicate, sym, refl, ap, ◌∙◌, arith, length-set, drop-cons, take_at, pow_pos}
use native.Mathlib.Decide.{dec_lt}
use lib.ListN.{length-replicate, replicate-append-replicate, get_or-eq_default}
use lib.Seq.{drop-length, set-append_left}
use Rattle.places.specs.Places.{Below, size, digits_at, place_of}
use Rattle.places.proofs.LastAxis.{length-below}
use Rattle.places.proofs.Places.{one_to_one}
use Rattle.sizes.specs.Sizes.{max_inputs}
use Rattle.sizes.specs.Padded.{padded}
use Rattle.sizes.proofs.Padded.{length-padded, padded-entry}
use Rattle.vectors.specs.Vectors.{raised, held_at, Arrays}
use Rattle.vectors.proofs.Raised.{raised-entry, raised-set, raised-zeros, raised-only}

-- a value of a vector below the axes is below its axis
pub below_at : (us x : List ℕ) (i : ℕ) → Below us x → i < length us → get_or x i 0 < get_or us i 0
below_at [] x i b h = absurd (omega arith)
below_at (u ∷ us) [] i b h = absurd b
below_at (u ∷ us) (y ∷ ys) zero b h = b.0
below_at (u ∷ us) (y ∷ ys) (suc i) b h = below_at us ys i b.1 (omega arith)

-- and values that are make a vector below the axes
pub below_of : (us x : List ℕ) → length x ≡ length us → ((i : ℕ) → i < length us → get_or x i 0 < get_or us i 0) → Below us x
below_of [] [] l h = tt
below_of [] (y ∷ ys) l h = absurd (omega arith)
below_of (u ∷ us) [] l h = absurd (omega arith)
below_of (u ∷ us) (y ∷ ys) l h = (h 0 (omega arith), below_of us ys (omega arith) (λ i g. h (suc i) (omega arith)))

below_set : (us x : List ℕ) (i a : ℕ) → Below us x → a < get_or us i 0 → Below us (set x i a)
below_set [] x i a b h = absurd (omega arith)
below_set (u ∷ us) [] i a b h = absurd b
below_set (u ∷ us) (y ∷ ys) zero a b h = (h, b.1)
below_set (u ∷ us) (y ∷ ys) (suc i) a b h = (b.0, below_set us ys i a b.1 h)

-- the write of entry i moves the place by the weight of that entry
pub place_set :
    (us x : List ℕ) (i a : ℕ) → Below us x → i < length us →
    place_of us (set x i a) + get_or x i 0 * size (drop (suc i) us) ≡ place_of us x + a * size (drop (suc i) us)
unfolding place_of
place_set [] x i a b h = absurd (omega arith)
place_set (u ∷ us) [] i a b h = absurd b
place_set (u ∷ us) (y ∷ ys) zero a b h = omega arith
place_set (u ∷ us) (y ∷ ys) (suc i) a b h = omega (arith, place_set us ys i a b.1 (omega arith))

pub size-drop : (us : List ℕ) (i : ℕ) → i < length us → size (drop i us) ≡ get_or us i 0 * size (drop (suc i) us)
unfolding size
size-drop us i h = rw (drop-cons us i 0)

pub size_dropped : (us : List ℕ) (n : ℕ) → length us ≡ n → size (drop n us) ≡ 1
unfolding size
size_dropped us n l = rw (← l, drop-length us)

-- where there is a vector, there is the one of zeros, at place 0
below-zeros : (us x : List ℕ) → Below us x → Below us (replicate (length us) 0)
below-zeros [] x b = tt
below-zeros (u ∷ us) [] b = absurd b
below-zeros (u ∷ us) (y ∷ ys) b = (omega (arith, b.0), below-zeros us ys b.1)

place-zeros : (us : List ℕ) → place_of us (replicate (length us) 0) ≡ 0
unfolding place_of
place-zeros [] = refl
place-zeros (u ∷ us) = omega (arith, place-zeros us)

-- v holds the words that stand the counts x above lows, and the counts are below the axes us
pub record Digits (lows us v x : List ℕ) : Type 0 where
  pub shape : v ≡ raised lows (padded x)
  pub below : Below us x

pub zeros :
    (lows us x : List ℕ) (n : ℕ) → Arrays lows us → length us ≡ n → Below us x →
    Digits lows us lows (replicate n 0) × (place_of us (replicate n 0) ≡ 0)
zeros lows us x n k l b =
    let e : n + (max_inputs - n) ≡ length lows = omega (arith, k.each, k.few) in (
      record {
        shape = sym (rw (length-replicate, replicate-append-replicate) (ap (λ m. raised lows (replicate m 0)) e ∙ raised-zeros lows k.words));
        below = rw (← l) (below-zeros us x b);
      },
      rw (← l) (place-zeros us),
    )

module _ {lows us v x : List ℕ} (k : Arrays lows us) (g : Digits lows us v x) where
  long : length lows ≡ length (padded x)
  long = k.each ∙ sym (length-padded x (omega (arith, length-below us x g.below, k.few)))

  pub digit : (i : ℕ) → i < length us → get_or v i 0 ≡ (get_or lows i 0 + get_or x i 0) % 2 ^ 64
  digit i h =
      ap (λ l. get_or l i 0) g.shape
      ∙ raised-entry lows (padded x) i long (omega (arith, k.each, k.few))
      ∙ ap (λ n. (get_or lows i 0 + n) % 2 ^ 64) (padded-entry x i)

  pub digit-most : (i : ℕ) → i < length us → get_or x i 0 < get_or us i 0
  digit-most i h = below_at us x i g.below h

  pub written : (i a : ℕ) → i < length us → a < get_or us i 0 → Digits lows us (set v i ((get_or lows i 0 + a) % 2 ^ 64)) (set x i a)
  written i a h l =
      record {
        shape =
            ap (λ w. set w i ((get_or lows i 0 + a) % 2 ^ 64)) g.shape
            ∙ raised-set lows (padded x) i a long
            ∙ ap (raised lows) (set-append_left x _ i a (omega (arith, length-below us x g.below)) ∙ rw length-set);
        below = below_set us x i a g.below l;
      }

  pub placed : (p : ℕ) → place_of us x ≡ p → v ≡ held_at lows us p
  unfolding held_at
  placed p e = g.shape ∙ ap (λ t. raised lows (padded t)) (sym ((one_to_one us).found x g.below) ∙ ap (digits_at us) e)

-- two places that hold the same are one
pub same_place :
    (lows us : List ℕ) → Arrays lows us → (p q : ℕ) → p < size us → q < size us →
    held_at lows us p ≡ held_at lows us q → p ≡ q
unfolding held_at
same_place lows us k p q hp hq e = sym ((one_to_one us).placed p hp) ∙ ap (place_of us) same ∙ (one_to_one us).placed q hq
  where
    long-at : (r : ℕ) → r < size us → length (digits_at us r) ≡ length us
    long-at r h = length-below us (digits_at us r) ((one_to_one us).below r h)

    padded-long : (r : ℕ) → r < size us → length lows ≡ length (padded (digits_at us r))
    padded-long r h = k.each ∙ sym (length-padded (digits_at us r) (omega (arith, long-at r h, k.few)))

    small : (r : ℕ) → r < size us → (i : ℕ) → get_or (padded (digits_at us r)) i 0 < 2 ^ 64
    small r h i =
        elim (dec_lt i (length us)) [
          | yes l ↦ rw (padded-entry (digits_at us r) i) (omega (arith, below_at us (digits_at us r) i ((one_to_one us).below r h) l, k.axes i))
          | no n ↦ rw (padded-entry (digits_at us r) i, get_or-eq_default (digits_at us r) 0 {n = i} (omega (arith, long-at r h))) (pow_pos 64)
        ]

    front : (r : ℕ) → r < size us → take (length us) (padded (digits_at us r)) ≡ digits_at us r
    front r h = take_at (digits_at us r) _ (length us) (long-at r h)

    same : digits_at us p ≡ digits_at us q
    same =
        sym (front p hp)
        ∙ ap (take (length us)) (raised-only lows _ _ (padded-long p hp) (padded-long q hq) (small p hp) (small q hq) e)
        ∙ front q hq
