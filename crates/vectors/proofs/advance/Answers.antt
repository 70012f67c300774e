-- `vectors::advance` meets its contract. The loop's invariant: the entries from i on went to 0 from their last values, and the place is
-- one block of the size of the axes from i on short of the next.
-- Assumes nothing.
use Rattle.std.proofs.Common.{◌≡◌, ℕ, suc, ◌+◌, ◌-◌, ◌*◌, ◌%◌, ◌^◌, ◌<◌, ◌≤◌, List, length, get_or, take, drop, set, sym, refl, ap, ◌∙◌, subst, arith, length-set, length-take-le, get_or-take}
use Rattle.places.specs.Places.{size, digits_at, place_of}
use Rattle.places.proofs.Places.{one_to_one}
use Rattle.vectors.specs.Vectors.{held_at, Arrays, Placed}
use Rattle.vectors.proofs.Digits.{Digits, digit, digit-most, place_set, placed, same_place, size-drop, size_dropped, written}
use Rattle.vectors.proofs.advance.Goals.{At-loop-i}
use Rattle.vectors.proofs.advance.Invariants.{Carried}
use Rattle.vectors.proofs.advance.Goals as goal

start :
    (axes lows : List ℕ) (d : ℕ) (v : List ℕ) → length (take d axes) ≡ d → Arrays lows (take d axes) → Placed lows (take d axes) v → Carried axes lows d v v d
unfolding held_at
start axes lows d v l k s =
    let us = take d axes in
    record {
      within = omega arith;
      long = l;
      known = k;
      first = s;
      vector = digits_at us s.place;
      digits = record { shape = s.shape; below = (one_to_one us).below s.place s.inside };
      place = rw ((one_to_one us).placed s.place s.inside, size_dropped us d l);
    }

module _ {axes lows : List ℕ} {d : ℕ} {v₀ v : List ℕ} {i : ℕ} (f : Carried axes lows d v₀ v i) where
  abbrev us : List ℕ
  us = take d axes

  -- the place is the one that the caller means
  meant : (p : ℕ) → p + 1 < size us → v₀ ≡ held_at lows us p → f.first.place ≡ p
  meant p h s =
      same_place lows us f.known f.first.place p f.first.inside (omega arith) (sym f.first.shape ∙ s)

  module _ (some : 0 < i) where
    abbrev u : ℕ
    u = get_or axes (i - 1) 0

    abbrev low : ℕ
    low = get_or lows (i - 1) 0

    -- the count that the entry holds
    abbrev t : ℕ
    t = get_or f.vector (i - 1) 0

    inside : i - 1 < length us
    inside = omega (arith, f.within, f.long)

    axis : get_or us (i - 1) 0 ≡ u
    axis = get_or-take d axes (i - 1) 0 (omega (arith, f.within))

    below : t < u
    below = omega (arith, axis, digit-most f.known f.digits (i - 1) inside)

    next : suc (i - 1) ≡ i
    next = omega arith

    -- the next word
    abbrev x : ℕ
    x = (get_or v (i - 1) 0 + 1) % 2 ^ 64

    word : x ≡ (low + (t + 1)) % 2 ^ 64
    word = omega (arith, digit f.known f.digits (i - 1) inside)

    -- and how far it stands above the lowest
    count : (x + (2 ^ 64 - low)) % 2 ^ 64 ≡ t + 1
    count = omega (arith, word, f.known.words (i - 1), below, axis, f.known.axes (i - 1))

    weighed : (a : ℕ) → place_of us (set f.vector (i - 1) a) + t * size (drop i us) ≡ place_of us f.vector + a * size (drop i us)
    weighed a = rw next at (place_set us f.vector (i - 1) a f.digits.below inside)

    carry : u ≤ t + 1 → Carried axes lows d v₀ (set v (i - 1) low) (i - 1)
    carry l =
        let n : u ≡ t + 1 = omega (arith, below) in
        let back : low ≡ (low + 0) % 2 ^ 64 = omega (arith, f.known.words (i - 1)) in
        record {
          within = omega (arith, f.within);
          long = f.long;
          known = f.known;
          first = f.first;
          vector = set f.vector (i - 1) 0;
          digits =
              subst (λ a. Digits lows us (set v (i - 1) a) (set f.vector (i - 1) 0)) (sym back)
              (written f.known f.digits (i - 1) 0 inside (omega (arith, axis, below)));
          place =
              rw (size-drop us (i - 1) inside, axis, next)
              (omega (arith, ap (λ k. k * size (drop i us)) n, weighed 0, f.place));
        }

    up : t + 1 < u → (p : ℕ) → p + 1 < size us → v₀ ≡ held_at lows us p → set v (i - 1) ((low + (t + 1)) % 2 ^ 64) ≡ held_at lows us (p + 1)
    up l p h s =
        placed f.known (written f.known f.digits (i - 1) (t + 1) inside (omega (arith, axis))) (p + 1)
        (omega (arith, weighed (t + 1), f.place, meant p h s))

-- past the first input there is no next vector
wrapped :
    (axes lows : List ℕ) (d : ℕ) (v₀ v : List ℕ) (p : ℕ) → Carried axes lows d v₀ v 0 → p + 1 < size (take d axes) → ¬ (v₀ ≡ held_at lows (take d axes) p)
wrapped axes lows d v₀ v p f h s = omega (arith, f.place, meant f p h s)

pub loop-i-init : goal.loop-i-init
loop-i-init c = (refl, start _ _ _ _ (length-take-le c.args.d c.args.axes.now c.requires.d_in_bounds.0) c.requires.arrays c.requires.placed)

pub returns-then-x-lows : goal.returns-then-x-lows
returns-then-x-lows c =
    let f = c.loop-i.invariant.1 in
    let some = c.loop-i-test.true in
    λ p h s. ap (set c.loop-i.v (c.loop-i.i - 1)) (word f some) ∙ up f some (omega (arith, count f some, c.if-x-lows.true)) p h s

pub loop-i-preserved : goal.loop-i-preserved
loop-i-preserved c =
    let inv = c.loop-i.invariant in
    let some = c.loop-i-test.true in
    (rw length-set inv.0, carry inv.1 some (omega (arith, count inv.1 some, c.if-x-lows.false)))

pub returns : goal.returns
returns c =
    let e : c.loop-i.i ≡ 0 = omega arith in
    λ p h s. absurd (wrapped _ _ _ _ _ p (rw e at c.loop-i.invariant.1) h s)
