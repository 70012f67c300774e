-- The axes from one on: the size of the grid is a multiple of the size of the grid of its later axes. Assumes nothing.
use Rattle.std.proofs.Common.{◌≡◌, ℕ, zero, suc, ◌*◌, ◌-◌, ◌%◌, ◌≤◌, ◌<◌, List, [], ◌∷◌, length, get_or, take, drop, refl, sym, ◌∙◌, ap, arith, drop-cons}
use native.Mathlib.Nat.{one-mul, mul_assoc, mul-mod_left}
use Rattle.places.specs.Places.{size}

size-split : (n : ℕ) (us : List ℕ) → size us ≡ size (take n us) * size (drop n us)
unfolding size
size-split zero us = sym (one-mul (size us))
size-split (suc n) [] = refl
size-split (suc n) (u ∷ us) = ap (λ (k : ℕ). u * k) (size-split n us) ∙ sym (mul_assoc u (size (take n us)) (size (drop n us)))

-- an axis u and the later ones vs
pub size-multiple : (us : List ℕ) (j u : ℕ) (vs : List ℕ) → drop j us ≡ u ∷ vs → size us % (u * size vs) ≡ 0
unfolding size
size-multiple us j u vs e =
    ap (λ (n : ℕ). n % (u * size vs)) (size-split j us ∙ ap (λ (l : List ℕ). size (take j us) * size l) e)
    ∙ mul-mod_left (size (take j us)) (u * size vs)

-- the axes from that before i on
pub drop-axis : (axes : List ℕ) (i : ℕ) → 0 < i → i ≤ length axes → drop (i - 1) axes ≡ get_or axes (i - 1) 0 ∷ drop i axes
drop-axis axes i z h =
    let n : suc (i - 1) ≡ i = omega arith in
    drop-cons axes (i - 1) 0 (omega arith) ∙ ap (λ (j : ℕ). get_or axes (i - 1) 0 ∷ drop j axes) n
