-- Integers: a natural number is its decimal, and a negative one is a minus sign and the decimal of its magnitude; so what is known of decimals
-- is known of them, and a minus sign, which is no digit, tells the two apart. Assumes nothing.
use mathlib.Core.Path.{◌≡◌, refl, sym, ◌∙◌, ap}
use mathlib.Core.List.{List, [], ◌∷◌}
use Prim.Native.Nat.{ℕ, zero, suc, ◌+◌, ◌≤◌}
use native.Mathlib.Numerals.{add-one}
use native.Mathlib.Omega.{arith}
use lib.IntN.{pos, negsuc, neg_ℤ, nat_abs}
use lib.ListN.{get_or, drop}
use Rattle.text.specs.Decimal.{decimal, numeral, minus, integer, IsDecimal, Integers, OneInteger, IntegersApart}
use Rattle.text.proofs.Decimal.{decimals, one_decimal}

-- the decimals of equal numbers
decimal_of : (k n : ℕ) → k ≡ n → IsDecimal n (decimal k)
decimal_of k n e = rw e (decimals n)

natural-size : (k n : ℕ) → pos k ≡ pos n → k ≡ n
natural-size k n e = ap nat_abs e

negative-size : (k n : ℕ) → 1 ≤ n → negsuc k ≡ neg_ℤ (pos n) → k + 1 ≡ n
negative-size k zero h e = absurd (omega arith)
negative-size k (suc n) h e = omega (arith, ap nat_abs e)

not-both : (k n : ℕ) → ¬ (negsuc k ≡ pos n)
not-both k n e = let z : ◌≡◌ {A = ℕ} 0 1 = cc in omega arith

natural-only : (k n : ℕ) → 1 ≤ n → ¬ (pos k ≡ neg_ℤ (pos n))
natural-only k zero h e = omega arith
natural-only k (suc n) h e = not-both n k (sym e)

pub integers : Integers
unfolding integer
integers (pos k) =
    record {
      natural = λ n e. decimal_of k n (natural-size k n e);
      sign = λ n h e. absurd (natural-only k n h e);
      magnitude = λ n h e. absurd (natural-only k n h e);
    }
integers (negsuc k) =
    record {
      natural = λ n e. absurd (not-both k n e);
      sign = λ n h e. refl;
      magnitude = λ n h e. decimal_of (k + 1) n (negative-size k n h e);
    }

-- bytes that begin with a minus sign, and those after it
after-sign : (bytes : List ℕ) → get_or bytes 0 0 ≡ minus → bytes ≡ minus ∷ drop 1 bytes
after-sign [] e = absurd (omega arith)
after-sign (b ∷ bytes) e = ap (λ (c : ℕ). c ∷ bytes) e

pub one_integer : OneInteger
unfolding integer
one_integer (pos k) bytes is = one_decimal k bytes (is.natural k refl)
one_integer (negsuc k) bytes is =
    rw (add-one k)
    (after-sign bytes (is.sign (suc k) (omega arith) refl)
    ∙ ap (λ (ds : List ℕ). minus ∷ ds) (one_decimal (suc k) (drop 1 bytes) (is.magnitude (suc k) (omega arith) refl)))

-- the number is read off its decimal, and a decimal doesn't begin with a minus sign
decimal-apart : (k n : ℕ) → decimal k ≡ decimal n → k ≡ n
decimal-apart k n e = sym (decimals k).value ∙ ap numeral e ∙ (decimals n).value

no_sign : (k n : ℕ) → ¬ (decimal k ≡ minus ∷ decimal n)
no_sign k n e = omega (arith, (decimals k).low 0 (decimals k).some, ap (λ (bytes : List ℕ). get_or bytes 0 0) e)

pub integers_apart : IntegersApart
unfolding integer
integers_apart (pos k) (pos n) e = ap pos (decimal-apart k n e)
integers_apart (pos k) (negsuc n) e = absurd (no_sign k (n + 1) e)
integers_apart (negsuc k) (pos n) e = absurd (no_sign n (k + 1) (sym e))
integers_apart (negsuc k) (negsuc n) e =
    ap negsuc (omega (arith, decimal-apart (k + 1) (n + 1) (ap (λ (bytes : List ℕ). drop 1 bytes) e)))
