-- A word stands for an integer modulo 2^m: what holds of two words and the integers that they stand for holds of their wrapping sum, difference
-- and product, since 2^m divides 2^64, and of the product of their low 32 bits, where m is 32 or less.
-- Assumes nothing.
use mathlib.Core.Path.{◌≡◌, sym, ◌∙◌, ap₂, subst}
use Prim.Native.Nat.{ℕ, ◌+◌, ◌*◌, ◌-◌, ◌%◌, ◌^◌, ◌≤◌, ◌<◌}
use native.Mathlib.Nat.{add-mod, mod-lt}
use native.Mathlib.Omega.{arith}
use lib.IntN.{ℤ, pos, ◌+ℤ◌, ◌-ℤ◌, ◌*ℤ◌}
use lib.Pow.{pow_pos}
use Rattle.integers.specs.Modulo.{Divides, remainder}
use Rattle.integers.proofs.Divisibility.{divides-add, divides-sub, divides_coarse, divides_self}
use Rattle.integers.proofs.Remainder.{remainder-add, remainder-mul, congruent→equal, equal→congruent}
use Rattle.integers.proofs.Ring.{sub-push, sub_eq, ring₂}
use Rattle.words.proofs.Congruence.{power-split, cut_power}

cut_cut : (x j m : ℕ) → m ≤ j → x % 2 ^ j % 2 ^ m ≡ x % 2 ^ m
unfolding remainder
cut_cut x j m h = cut_power (pos x) j m h

module _
    (m x y : ℕ) (a b : ℤ)
    (left : x % 2 ^ m ≡ remainder a (2 ^ m)) (right : y % 2 ^ m ≡ remainder b (2 ^ m))
  where
    pub residue_sum : m ≤ 64 → (x + y) % 2 ^ 64 % 2 ^ m ≡ remainder (a +ℤ b) (2 ^ m)
    residue_sum h =
        cut_cut (x + y) 64 m h
        ∙ add-mod x y (2 ^ m)
        ∙ ap₂ (λ u v. (u + v) % 2 ^ m) left right
        ∙ sym (remainder-add a b (2 ^ m) (pow_pos m))

    pub residue_difference : m ≤ 64 → (x + (2 ^ 64 - y % 2 ^ 64)) % 2 ^ 64 % 2 ^ m ≡ remainder (a -ℤ b) (2 ^ m)
    unfolding remainder
    residue_difference h =
        cut_cut (x + (2 ^ 64 - y % 2 ^ 64)) 64 m h
        ∙ congruent→equal (pos (x + (2 ^ 64 - y % 2 ^ 64))) (a -ℤ b) (2 ^ m) (pow_pos m)
        (subst (Divides (2 ^ m)) (regroup a b x (y % 2 ^ 64) (2 ^ 64) (mod-lt y (pow_pos 64)))
        (divides-add (divides-sub first second) whole))
      where
        first : Divides (2 ^ m) (pos x -ℤ a)
        first = equal→congruent (pos x) a (2 ^ m) (pow_pos m) left

        second : Divides (2 ^ m) (pos (y % 2 ^ 64) -ℤ b)
        second = equal→congruent (pos (y % 2 ^ 64)) b (2 ^ m) (pow_pos m) (cut_cut y 64 m h ∙ right)

        whole : Divides (2 ^ m) (pos (2 ^ 64))
        whole = divides_coarse (2 ^ (64 - m)) (2 ^ m) (subst (λ W. Divides W (pos (2 ^ 64))) (power-split 64 m h) (divides_self (2 ^ 64)))

        regroup : (a b : ℤ) (u v W : ℕ) → v < W → (pos u -ℤ a) -ℤ (pos v -ℤ b) +ℤ pos W ≡ pos (u + (W - v)) -ℤ (a -ℤ b)
        regroup = ring₂ _ λ m n k l u v W h. simp sub-push (sub_eq _ _ _ _ (omega arith))

    residue_mul : x * y % 2 ^ m ≡ remainder (a *ℤ b) (2 ^ m)
    unfolding remainder
    residue_mul =
        remainder-mul (pos x) (pos y) (2 ^ m) (pow_pos m) ∙ ap₂ (λ u v. u * v % 2 ^ m) left right ∙ sym (remainder-mul a b (2 ^ m) (pow_pos m))

    pub residue_product : m ≤ 64 → x * y % 2 ^ 64 % 2 ^ m ≡ remainder (a *ℤ b) (2 ^ m)
    residue_product h = cut_cut (x * y) 64 m h ∙ residue_mul

pub residue_low-product :
    (m x y : ℕ) (a b : ℤ) → x % 2 ^ m ≡ remainder a (2 ^ m) → y % 2 ^ m ≡ remainder b (2 ^ m) → m ≤ 32 →
    x % 2 ^ 32 * (y % 2 ^ 32) % 2 ^ m ≡ remainder (a *ℤ b) (2 ^ m)
residue_low-product m x y a b left right h = residue_mul m (x % 2 ^ 32) (y % 2 ^ 32) a b (cut_cut x 32 m h ∙ left) (cut_cut y 32 m h ∙ right)

pub ruleset products = (arith, residue_low-product, residue_product)
