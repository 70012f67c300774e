-- Numbers in decimal, as bytes (document 01, 'Pairs'), and integers with their signs (document 02, T-01).
--   digit d           the byte of the digit d
--   decimal n         the digits of n
--   numeral bytes     the number that the bytes of digits give
--   IsDecimal n bytes the bytes are n in decimal: some digits, no leading zero, and their number is n
--   Decimals          each number's decimal is that. It is proved in proofs/Decimal, under the same name with a small first letter
--   OneDecimal        no other bytes are. It is proved there too
--   minus             the byte of a minus sign
--   integer v         the integer v: its digits, and a minus sign before those of its magnitude where it is negative
--   IsInteger v bytes the bytes are v: a natural number in decimal, or a minus sign and then the magnitude in decimal, which is 1 or more
--   Integers          each integer's bytes are that. Proved in proofs/Integer, as are
--   OneInteger        no other bytes are
--   IntegersApart     and no two integers have the same
use Rattle.std.specs.Prelude.{◌≡◌, cond, List, [], ◌∷◌, ◌++◌, ℕ, zero, suc, ◌+◌, ◌-◌, ◌*◌, ◌/◌, ◌%◌, ◌≤◌, ◌<◌, ltb, ℤ, pos, negsuc, neg_ℤ, length, get_or, drop}

abbrev pub digit : ℕ → ℕ
digit d = 48 + d

-- the last k digits of n, fewer where n has fewer
unfoldable pub digits_of : ℕ → ℕ → List ℕ
digits_of zero n = []
digits_of (suc k) n = cond (ltb n 10) (digit n ∷ []) (digits_of k (n / 10) ++ (digit (n % 10) ∷ []))

-- n has at most n + 1 digits
unfoldable pub decimal : ℕ → List ℕ
decimal n = digits_of (suc n) n

-- the number that the bytes give after digits of the number a
abbrev pub read_from : ℕ → List ℕ → ℕ
read_from a [] = a
read_from a (b ∷ bytes) = read_from (10 * a + (b - 48)) bytes

abbrev pub numeral : List ℕ → ℕ
numeral bytes = read_from 0 bytes

pub record IsDecimal (n : ℕ) (bytes : List ℕ) : Type 0 where
  -- there is a digit
  pub some : 1 ≤ length bytes
  -- each byte is a digit, 0 to 9
  pub low : (i : ℕ) → i < length bytes → 48 ≤ get_or bytes i 0
  pub high : (i : ℕ) → i < length bytes → get_or bytes i 0 ≤ 57
  -- together they give n
  pub value : numeral bytes ≡ n
  -- the first digit is 0 only where it is the only one
  pub shortest : get_or bytes 0 0 ≡ 48 → length bytes ≡ 1

abbrev pub Decimals : Type 0
Decimals = (n : ℕ) → IsDecimal n (decimal n)

abbrev pub OneDecimal : Type 0
OneDecimal = (n : ℕ) (bytes : List ℕ) → IsDecimal n bytes → bytes ≡ decimal n

abbrev pub minus : ℕ
minus = 45

-- negsuc n is −(n + 1)
unfoldable pub integer : ℤ → List ℕ
integer (pos n) = decimal n
integer (negsuc n) = minus ∷ decimal (n + 1)

pub record IsInteger (v : ℤ) (bytes : List ℕ) : Type 0 where
  -- a natural number is its decimal
  pub natural : (n : ℕ) → v ≡ pos n → IsDecimal n bytes
  -- −n begins with a minus sign
  pub sign : (n : ℕ) → 1 ≤ n → v ≡ neg_ℤ (pos n) → get_or bytes 0 0 ≡ minus
  -- and n in decimal comes after it
  pub magnitude : (n : ℕ) → 1 ≤ n → v ≡ neg_ℤ (pos n) → IsDecimal n (drop 1 bytes)

abbrev pub Integers : Type 0
Integers = (v : ℤ) → IsInteger v (integer v)

abbrev pub OneInteger : Type 0
OneInteger = (v : ℤ) (bytes : List ℕ) → IsInteger v bytes → bytes ≡ integer v

abbrev pub IntegersApart : Type 0
IntegersApart = (v w : ℤ) → integer v ≡ integer w → v ≡ w
