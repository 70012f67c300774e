-- Places and digits correspond one to one: the digits of a place are its quotient and its remainder by the size of the later axes.
use mathlib.Core.Path.{◌≡◌, refl, ◌∙◌, sym, ap, subst}
use mathlib.Core.List.{List, [], ◌∷◌, ◌++◌}
use Prim.Native.Nat.{ℕ, zero, suc, ◌+◌, ◌*◌, ◌/◌, ◌%◌, ◌<◌}
use native.Mathlib.Nat.{mod-lt, div-add-mod', div-lt_iff_lt-mul, mul-zero, mul_assoc, not-suc-le-zero}
use native.Mathlib.Omega.{arith}
use lib.Arith.{digits_lt, digits_div, digits_mod}
use lib.ListN.{length}
use Rattle.places.specs.Places.{Below, size, digits_at, place_of}
use Rattle.places.specs.Statement.{OneToOne}

-- the later axes hold a vector where the whole list does
pub rest-least : (u s p : ℕ) → p < u * s → 0 < s
rest-least u zero p h = absurd (not-suc-le-zero (subst (λ (n : ℕ). p < n) (mul-zero u) h))
rest-least u (suc s) p h = omega arith

pub size_snoc : (us : List ℕ) (u : ℕ) → size (us ++ (u ∷ [])) ≡ size us * u
unfolding size
size_snoc [] u = omega arith
size_snoc (w ∷ us) u = rw (size_snoc us u) (sym (mul_assoc w (size us) u))

pub length_digits : (us : List ℕ) (p : ℕ) → length (digits_at us p) ≡ length us
unfolding digits_at
length_digits [] p = refl
length_digits (u ∷ us) p = ap suc (length_digits us _)

below : (us : List ℕ) (p : ℕ) → p < size us → Below us (digits_at us p)
unfolding size digits_at
below [] p h = tt
below (u ∷ us) p h =
    let s = rest-least u (size us) p h in
    ((div-lt_iff_lt-mul s).1 h, below us (p % size us) (mod-lt p s))

placed : (us : List ℕ) (p : ℕ) → p < size us → place_of us (digits_at us p) ≡ p
unfolding size digits_at place_of
placed [] p h = omega arith
placed (u ∷ us) p h =
    ap (λ (r : ℕ). p / size us * size us + r) (placed us (p % size us) (mod-lt p (rest-least u (size us) p h)))
    ∙ div-add-mod' p (size us)

inside : (us x : List ℕ) → Below us x → place_of us x < size us
unfolding size place_of
inside [] [] b = omega arith
inside [] (x ∷ xs) b = absurd b
inside (u ∷ us) [] b = absurd b
inside (u ∷ us) (x ∷ xs) b = digits_lt b.0 (inside us xs b.1)

found : (us x : List ℕ) → Below us x → digits_at us (place_of us x) ≡ x
unfolding digits_at place_of
found [] [] b = refl
found [] (x ∷ xs) b = absurd b
found (u ∷ us) [] b = absurd b
found (u ∷ us) (x ∷ xs) b =
    let i = inside us xs b.1 in
    rw (digits_div x i, digits_mod x i, found us xs b.1)

pub one_to_one : (us : List ℕ) → OneToOne us
one_to_one us = record { below = below us; placed = placed us; inside = inside us; found = found us }
