-- A word stands for an integer modulo 2^64: the wrapping sum, difference and product of two words are the words of the exact sum,
-- difference and product, and the cut of a word to m bits is the integer modulo 2^m, since 2^m divides 2^64.
use Rattle.std.proofs.Common.{◌≡◌, ℕ, ◌+◌, ◌-◌, ◌*◌, ◌%◌, ◌^◌, ◌<◌, ◌≤◌, ℤ, pos, ◌+ℤ◌, ◌-ℤ◌, ◌*ℤ◌, sym, ap, ◌∙◌, mod-eq_of_lt, arith, pow_pos, pow-add}
use Rattle.integers.specs.Modulo.{remainder}
use Rattle.integers.proofs.Remainder.{remainder_pos, remainder-most, remainder-add, remainder-sub, remainder-mul, remainder_coarse}
use Rattle.words.specs.Words.{word}

pub word-most : (z : ℤ) → word z < 2 ^ 64
word-most z = remainder-most z (2 ^ 64) (pow_pos 64)

-- a natural number that fits is its own word
pub word_pos : (a : ℕ) → a < 2 ^ 64 → word (pos a) ≡ a
word_pos a h = remainder_pos a (2 ^ 64) ∙ mod-eq_of_lt h

pub word-add : (a b : ℤ) → (word a + word b) % 2 ^ 64 ≡ word (a +ℤ b)
word-add a b = sym (remainder-add a b (2 ^ 64) (pow_pos 64))

-- as the supplied wrapping subtraction states its result: the word that added to b's wraps back to a's
pub word-sub : (r : ℕ) (a b : ℤ) → r < 2 ^ 64 → (r + word b) % 2 ^ 64 ≡ word a → r ≡ word (a -ℤ b)
word-sub r a b h e = omega (arith, remainder-sub a b (2 ^ 64) (pow_pos 64), word-most a, word-most b)

pub word-mul : (a b : ℤ) → (word a * word b) % 2 ^ 64 ≡ word (a *ℤ b)
word-mul a b = sym (remainder-mul a b (2 ^ 64) (pow_pos 64))

-- a smaller power of 2 divides a larger
pub power-split : (j m : ℕ) → m ≤ j → 2 ^ j ≡ 2 ^ (j - m) * 2 ^ m
power-split j m h = ap (λ k. 2 ^ k) split ∙ pow-add 2 (j - m) m
  where
    split : j ≡ j - m + m
    split = omega arith

pub cut_power : (z : ℤ) (j m : ℕ) → m ≤ j → remainder z (2 ^ j) % 2 ^ m ≡ remainder z (2 ^ m)
cut_power z j m h =
    ap (λ M. remainder z M % 2 ^ m) (power-split j m h) ∙ remainder_coarse z (2 ^ (j - m)) (2 ^ m) (pow_pos (j - m)) (pow_pos m)

pub word_cut : (z : ℤ) (m : ℕ) → m ≤ 64 → word z % 2 ^ m ≡ remainder z (2 ^ m)
word_cut z m h = cut_power z 64 m h
