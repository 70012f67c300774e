-- One axis more: the vector at place p of a grid with the last axis u is that at place p / u of the grid without it, and p % u. Through the place
-- of a vector with one entry more, by recursion on the axes.
-- Assumes nothing.
use mathlib.Core.Path.{◌≡◌, refl, sym, ◌∙◌, ap}
use mathlib.Core.List.{List, [], ◌∷◌, ◌++◌}
use Prim.Native.Nat.{ℕ, suc, ◌+◌, ◌*◌, ◌/◌, ◌%◌, ◌<◌}
use native.Mathlib.Nat.{div-add-mod', div-lt_iff_lt-mul, mod-lt}
use native.Mathlib.Omega.{arith}
use lib.ListN.{length}
use Rattle.places.specs.Places.{Below, size, digits_at, place_of}
use Rattle.places.proofs.Places.{one_to_one, rest-least, size_snoc}

pub length-below : (us x : List ℕ) → Below us x → length x ≡ length us
length-below [] [] b = refl
length-below [] (y ∷ ys) b = absurd b
length-below (u ∷ us) [] b = absurd b
length-below (u ∷ us) (y ∷ ys) b = ap suc (length-below us ys b.1)

-- one entry more
below_snoc : (us x : List ℕ) (u t : ℕ) → Below us x → t < u → Below (us ++ (u ∷ [])) (x ++ (t ∷ []))
below_snoc [] [] u t b h = (h, tt)
below_snoc [] (y ∷ ys) u t b h = absurd b
below_snoc (w ∷ us) [] u t b h = absurd b
below_snoc (w ∷ us) (y ∷ ys) u t b h = (b.0, below_snoc us ys u t b.1 h)

place_snoc : (us x : List ℕ) (u t : ℕ) → Below us x → place_of (us ++ (u ∷ [])) (x ++ (t ∷ [])) ≡ place_of us x * u + t
unfolding place_of size
place_snoc [] [] u t b = omega arith
place_snoc [] (y ∷ ys) u t b = absurd b
place_snoc (w ∷ us) [] u t b = absurd b
place_snoc (w ∷ us) (y ∷ ys) u t b = rw (size_snoc us u, place_snoc us ys u t b.1) (omega arith)

pub vector_snoc : (us : List ℕ) (u p : ℕ) → p < size us * u → digits_at (us ++ (u ∷ [])) p ≡ digits_at us (p / u) ++ (p % u ∷ [])
vector_snoc us u p h =
    let some = rest-least (size us) u p h in
    let line = (div-lt_iff_lt-mul some).1 h in
    let b = (one_to_one us).below (p / u) line in
    ap (digits_at (us ++ (u ∷ [])))
    (sym (place_snoc us (digits_at us (p / u)) u (p % u) b ∙ ap (λ r. r * u + p % u) ((one_to_one us).placed (p / u) line) ∙ div-add-mod' p u))
    ∙ (one_to_one (us ++ (u ∷ []))).found _ (below_snoc us (digits_at us (p / u)) u (p % u) b (mod-lt p some))
