-- The vectors of a grid are at its places, in order: counts from the lowest values are ordered as the values, and the digits of places as these
-- counts.
-- Assumes nothing.
use mathlib.Core.Path.{◌≡◌, refl, ◌∙◌, sym, ap, subst}
use mathlib.Core.Logic.{◌⊎◌, inl, inr, ⊎_elim}
use mathlib.Core.List.{List, [], ◌∷◌}
use Prim.Native.Nat.{ℕ, suc, ◌*◌, ◌/◌, ◌%◌, ◌<◌}
use native.Mathlib.Nat.{mod-lt, div-add-mod', eq-or-lt_of_le}
use native.Mathlib.Decide.{dec_lt}
use native.Mathlib.Omega.{arith}
use lib.Arith.{digits_lt}
use lib.IntN.{ℤ, pos, ◌+ℤ◌}
use lib.ListN.{length}
use lib.Signed.{◌<ℤ◌}
use Rattle.integers.proofs.Order.{above, at_least, add-cancel, add-<, <-added}
use Rattle.places.specs.Places.{Below, size, digits_at, place_of}
use Rattle.places.specs.Statement.{Vectors, InOrder, EachPlaced}
use Rattle.places.specs.Vectors.{counted, vector_at, OnAxes, Before}
use Rattle.places.proofs.Places.{one_to_one, rest-least}

-- the head and the tail of equal lists
head-same : {v w : ℤ} {x y : List ℤ} → v ∷ x ≡ w ∷ y → v ≡ w
head-same e = cc

tail-same : {v w : ℤ} {x y : List ℤ} → v ∷ x ≡ w ∷ y → x ≡ y
tail-same e = cc

suc_same : {m n : ℕ} → suc m ≡ suc n → m ≡ n
suc_same e = omega arith

-- counts below the axes, as vectors of the grid
pub counted_on : (los : List ℤ) (us ts : List ℕ) → length los ≡ length us → Below us ts → OnAxes los us (counted los ts)
unfolding counted
counted_on [] [] [] e b = tt
counted_on [] [] (t ∷ ts) e b = absurd b
counted_on [] (u ∷ us) ts e b = absurd (omega arith)
counted_on (lo ∷ los) [] ts e b = absurd (omega arith)
counted_on (lo ∷ los) (u ∷ us) [] e b = absurd b
counted_on (lo ∷ los) (u ∷ us) (t ∷ ts) e b =
    ((at_least lo t, add-< lo t u b.0), counted_on los us ts (suc_same e) b.1)

-- and back
counts : (los : List ℤ) (us : List ℕ) (x : List ℤ) → OnAxes los us x → (ts : List ℕ) × Below us ts × (counted los ts ≡ x)
unfolding counted
counts [] [] [] o = ([], tt, refl)
counts [] [] (v ∷ x) o = absurd o
counts [] (u ∷ us) x o = absurd o
counts (lo ∷ los) [] x o = absurd o
counts (lo ∷ los) (u ∷ us) [] o = absurd o
counts (lo ∷ los) (u ∷ us) (v ∷ x) o =
    let t = above lo v o.0.0 in
    let rest = counts los us x o.1 in
    (t.0 ∷ rest.0, (<-added lo t.0 u (subst (λ z. z <ℤ (lo +ℤ pos u)) t.1 o.0.1), rest.1), rw (rest.2, ← t.1))

-- no other counts give the same vector
counted-only : (los : List ℤ) (us ss ts : List ℕ) → length los ≡ length us → Below us ss → Below us ts → counted los ss ≡ counted los ts → ss ≡ ts
unfolding counted
counted-only [] [] [] [] e b c q = refl
counted-only [] [] [] (t ∷ ts) e b c q = absurd c
counted-only [] [] (s ∷ ss) ts e b c q = absurd b
counted-only [] (u ∷ us) ss ts e b c q = absurd (omega arith)
counted-only (lo ∷ los) [] ss ts e b c q = absurd (omega arith)
counted-only (lo ∷ los) (u ∷ us) [] ts e b c q = absurd b
counted-only (lo ∷ los) (u ∷ us) (s ∷ ss) [] e b c q = absurd c
counted-only (lo ∷ los) (u ∷ us) (s ∷ ss) (t ∷ ts) e b c q =
    rw (add-cancel lo s t (head-same q), counted-only los us ss ts (suc_same e) b.1 c.1 (tail-same q))

-- of two vectors of the grid, the one before has the lower place
pub place-before :
    (los : List ℤ) (us ss ts : List ℕ) → length los ≡ length us → Below us ss → Below us ts → Before (counted los ss) (counted los ts) →
    place_of us ss < place_of us ts
unfolding place_of counted
place-before [] [] [] [] e b c h = absurd h
place-before [] [] [] (t ∷ ts) e b c h = absurd c
place-before [] [] (s ∷ ss) ts e b c h = absurd b
place-before [] (u ∷ us) ss ts e b c h = absurd (omega arith)
place-before (lo ∷ los) [] ss ts e b c h = absurd (omega arith)
place-before (lo ∷ los) (u ∷ us) [] ts e b c h = absurd b
place-before (lo ∷ los) (u ∷ us) (s ∷ ss) [] e b c h = absurd c
place-before (lo ∷ los) (u ∷ us) (s ∷ ss) (t ∷ ts) e b c (inl h) =
    omega (arith, digits_lt (<-added lo s t h) ((one_to_one us).inside ss b.1))
place-before (lo ∷ los) (u ∷ us) (s ∷ ss) (t ∷ ts) e b c (inr h) =
    omega (arith, place-before los us ss ts (suc_same e) b.1 c.1 h.1, ap (λ (n : ℕ). n * size us) (add-cancel lo s t h.0))

-- of two places in one layer of the first axis, and in two layers
digits_order : (s p q : ℕ) → 0 < s → p < q → (p / s < q / s) ⊎ ((p / s ≡ q / s) × (p % s < q % s))
digits_order s p q z h = elim (dec_lt (p / s) (q / s)) [ yes l ↦ inl l | no l ↦ inr (same (eq-or-lt_of_le (omega arith))) ]
  where
    same : (q / s ≡ p / s) ⊎ (q / s < p / s) → (p / s ≡ q / s) × (p % s < q % s)
    same (inl e) =
        (sym e, omega (arith, div-add-mod' p s, div-add-mod' q s, ap (λ (n : ℕ). n * s) e))
    same (inr l) = omega (arith, div-add-mod' p s, div-add-mod' q s, digits_lt l (mod-lt q z))

before_digits :
    (los : List ℤ) (us : List ℕ) (p q : ℕ) → length los ≡ length us → p < q → q < size us → Before (counted los (digits_at us p)) (counted los (digits_at us q))
unfolding size digits_at counted
before_digits [] [] p q e h k = absurd (omega arith)
before_digits [] (u ∷ us) p q e h k = absurd (omega arith)
before_digits (lo ∷ los) [] p q e h k = absurd (omega arith)
before_digits (lo ∷ los) (u ∷ us) p q e h k =
    let s = rest-least u (size us) q k in
    ⊎_elim (λ l. inl (add-< lo (p / size us) (q / size us) l))
    (λ d. inr (ap (λ n. lo +ℤ pos n) d.0, before_digits los us (p % size us) (q % size us) (suc_same e) d.1 (mod-lt q s)))
    (digits_order (size us) p q s h)

pub before-place : (los : List ℤ) (us : List ℕ) → length los ≡ length us → (p q : ℕ) → p < q → q < size us → Before (vector_at los us p) (vector_at los us q)
unfolding vector_at
before-place los us e p q h k = before_digits los us p q e h k

pub vectors : (los : List ℤ) (us : List ℕ) → length los ≡ length us → Vectors los us
unfolding vector_at
vectors los us e =
    record {
      on_axes = λ p h. counted_on los us (digits_at us p) e ((one_to_one us).below p h);
      only = λ p q hp hq same.
          sym ((one_to_one us).placed p hp)
          ∙ ap (place_of us) (counted-only los us (digits_at us p) (digits_at us q) e ((one_to_one us).below p hp) ((one_to_one us).below q hq) same)
          ∙ (one_to_one us).placed q hq;
      found = λ x o.
          let c = counts los us x o in
          (place_of us c.0, (one_to_one us).inside c.0 c.1, ap (counted los) ((one_to_one us).found c.0 c.1) ∙ c.2);
    }

in_order : (los : List ℤ) (us : List ℕ) → length los ≡ length us → InOrder los us
unfolding vector_at
in_order los us e p q hp hq = (
  λ (h : p < q). before-place los us e p q h hq,
  λ b.
      let l = place-before los us (digits_at us p) (digits_at us q) e ((one_to_one us).below p hp) ((one_to_one us).below q hq) b in
      omega (arith, (one_to_one us).placed p hp, (one_to_one us).placed q hq),
)

pub each_placed : EachPlaced
each_placed los us e = (vectors los us e, in_order los us e)
