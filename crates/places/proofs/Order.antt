-- Dictionary order is a strict order: no vector is before itself, and it is transitive. By recursion on the vectors.
use mathlib.Core.Path.{◌∙◌, sym, subst}
use mathlib.Core.Logic.{inl, inr}
use mathlib.Core.List.{List, [], ◌∷◌}
use lib.IntN.{ℤ}
use lib.Signed.{◌<ℤ◌, <ℤ_irrefl}
use Rattle.integers.proofs.Order.{<ℤ-trans}
use Rattle.places.specs.Vectors.{Before}

pub before_irrefl : (x : List ℤ) → Before x x → ⊥
before_irrefl [] b = b
before_irrefl (v ∷ x) (inl h) = <ℤ_irrefl h
before_irrefl (v ∷ x) (inr h) = before_irrefl x h.1

pub before_trans : (x y z : List ℤ) → Before x y → Before y z → Before x z
before_trans [] [] z b c = absurd b
before_trans [] (w ∷ y) z b c = absurd b
before_trans (v ∷ x) [] z b c = absurd b
before_trans (v ∷ x) (w ∷ y) [] b c = absurd c
before_trans (v ∷ x) (w ∷ y) (u ∷ z) (inl h) (inl k) = inl (<ℤ-trans h k)
before_trans (v ∷ x) (w ∷ y) (u ∷ z) (inl h) (inr k) = inl (subst (λ a. v <ℤ a) k.0 h)
before_trans (v ∷ x) (w ∷ y) (u ∷ z) (inr h) (inl k) = inl (subst (λ a. a <ℤ u) (sym h.0) k)
before_trans (v ∷ x) (w ∷ y) (u ∷ z) (inr h) (inr k) = inr (h.0 ∙ k.0, before_trans x y z h.1 k.1)
