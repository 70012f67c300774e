-- Decimals: a number below 10 is its digit, and a larger one the decimal of its tenth and one digit more, so that reading the digits gives
-- the number again. Any other bytes that do are the same, from the last digit backwards: it is the remainder by 10, and the others are the
-- decimal of the quotient. Assumes nothing.
use mathlib.Core.Path.{◌≡◌, refl, sym, ◌∙◌, ap}
use mathlib.Core.List.{List, [], ◌∷◌, ◌++◌}
use Prim.Native.Nat.{ℕ, zero, suc, ◌+◌, ◌-◌, ◌*◌, ◌/◌, ◌%◌, ◌≤◌, ◌<◌}
use native.Mathlib.Nat.{mod-lt, mod-eq_of_lt, div-add-mod'}
use native.Mathlib.Decide.{dec_lt}
use native.Mathlib.Omega.{arith}
use lib.ListN.{length, get_or, take, length-append, get_or-append}
use lib.Seq.{get_or-append_seam, take-suc, take-length}
use borrow.Author.Tests.{lt-ltb, le-ltb}
use Rattle.text.specs.Decimal.{digit, digits_of, decimal, read_from, numeral, IsDecimal, Decimals, OneDecimal}

-- the quotient and the remainder by 10
pub tens : (n : ℕ) → (n / 10 * 10 + n % 10 ≡ n) × (n % 10 < 10)
tens n = (div-add-mod' n 10, mod-lt n (omega arith))

-- from n + 1 on, more room for digits changes nothing
enough : (k j n : ℕ) → n < k → n < j → digits_of k n ≡ digits_of j n
unfolding digits_of
enough zero j n h g = absurd (omega arith)
enough (suc k) zero n h g = absurd (omega arith)
enough (suc k) (suc j) n h g =
    elim (dec_lt n 10) [
      | yes l ↦ rw (lt-ltb n 10 l)
      | no l ↦ rw (le-ltb n 10 (omega arith), enough k j (n / 10) (omega (arith, tens n)) (omega (arith, tens n)))
    ]

decimal_one : (n : ℕ) → n < 10 → decimal n ≡ digit n ∷ []
unfolding decimal digits_of
decimal_one n l = rw (lt-ltb n 10 l)

-- the last digit of all is the only one where the number is below 10
pub decimal-last : (n : ℕ) → n < 10 → decimal n ≡ digit (n % 10) ∷ []
decimal-last n l = rw (mod-eq_of_lt l) (decimal_one n l)

pub decimal_step : (n : ℕ) → 10 ≤ n → decimal n ≡ decimal (n / 10) ++ (digit (n % 10) ∷ [])
unfolding decimal digits_of
decimal_step n l =
    rw (le-ltb n 10 l)
    (ap (λ (ds : List ℕ). ds ++ (digit (n % 10) ∷ [])) (enough n (suc (n / 10)) (n / 10) (omega (arith, tens n)) (omega arith)))

pub length-decimal : (n : ℕ) → 10 ≤ n → length (decimal n) ≡ length (decimal (n / 10)) + 1
length-decimal n l = rw (decimal_step n l) (length-append (decimal (n / 10)) (digit (n % 10) ∷ []))

-- one digit more
read_snoc : (a : ℕ) (bytes : List ℕ) (b : ℕ) → read_from a (bytes ++ (b ∷ [])) ≡ 10 * read_from a bytes + (b - 48)
read_snoc a [] b = refl
read_snoc a (c ∷ bytes) b = read_snoc (10 * a + (c - 48)) bytes b

-- digits after those of a don't make it less
read-least : (a : ℕ) (bytes : List ℕ) → a ≤ read_from a bytes
read-least a [] = omega arith
read-least a (b ∷ bytes) = omega (arith, read-least (10 * a + (b - 48)) bytes)

-- the digits of a number from 1 on don't begin with 0
no_zero : (q : ℕ) (ds : List ℕ) → 1 ≤ q → IsDecimal q ds → ¬ (get_or ds 0 0 ≡ 48)
no_zero q [] h is e = absurd (omega (arith, is.some))
no_zero q (b ∷ []) h is e = omega (arith, is.value)
no_zero q (b ∷ c ∷ ds) h is e = omega (arith, is.shortest e)

module _ (ds : List ℕ) (d : ℕ) where
  length_snoc : length (ds ++ (d ∷ [])) ≡ length ds + 1
  length_snoc = length-append ds (d ∷ [])

  -- an entry of the list with one more
  snoc_entry :
      (P : ℕ → Type 0) → ((i : ℕ) → i < length ds → P (get_or ds i 0)) → P d →
      (i : ℕ) → i < length (ds ++ (d ∷ [])) → P (get_or (ds ++ (d ∷ [])) i 0)
  snoc_entry P all last i h =
      elim (dec_lt i (length ds)) [
        | yes l ↦ rw (get_or-append ds (d ∷ []) 0 i l) (all i l)
        | no l ↦
            let e : i ≡ length ds = omega (arith, length_snoc) in
            rw (e, get_or-append_seam ds d [] 0) last
      ]

is_one : (n : ℕ) → n < 10 → IsDecimal n (digit n ∷ [])
is_one n l =
    record {
      some = omega arith;
      low = λ i h. snoc_entry [] (digit n) (λ b. 48 ≤ b) (λ j k. absurd (omega arith)) (omega arith) i h;
      high = λ i h. snoc_entry [] (digit n) (λ b. b ≤ 57) (λ j k. absurd (omega arith)) (omega arith) i h;
      value = omega arith;
      shortest = λ _. refl;
    }

is_snoc : (q r : ℕ) (ds : List ℕ) → 1 ≤ q → r < 10 → IsDecimal q ds → IsDecimal (q * 10 + r) (ds ++ (digit r ∷ []))
is_snoc q r ds h l is =
    record {
      some = omega (arith, length_snoc ds (digit r));
      low = snoc_entry ds (digit r) (λ b. 48 ≤ b) is.low (omega arith);
      high = snoc_entry ds (digit r) (λ b. b ≤ 57) is.high (omega arith);
      value = omega (arith, read_snoc 0 ds (digit r), is.value);
      shortest = λ e. absurd (no_zero q ds h is (sym (get_or-append ds (digit r ∷ []) 0 0 (omega (arith, is.some))) ∙ e));
    }

-- by the count k of numbers that are left below
decimals_to : (k n : ℕ) → n < k → IsDecimal n (decimal n)
decimals_to zero n h = absurd (omega arith)
decimals_to (suc k) n h =
    elim (dec_lt n 10) [
      | yes l ↦ rw (decimal_one n l) (is_one n l)
      | no l ↦
          let t = tens n in
          let is = is_snoc (n / 10) (n % 10) (decimal (n / 10)) (omega (arith, t)) t.1 (decimals_to k (n / 10) (omega (arith, t))) in
          rw (decimal_step n (omega arith)) (rw t.0 at is)
    ]

pub decimals : Decimals
decimals n = decimals_to (suc n) n (omega arith)

-- digits that don't begin with 0 give a number from 1 on
first-counts : (ds : List ℕ) → 1 ≤ length ds → 48 < get_or ds 0 0 → 1 ≤ numeral ds
first-counts [] s h = absurd (omega arith)
first-counts (b ∷ ds) s h = omega (arith, read-least (10 * 0 + (b - 48)) ds)

-- the digits before the last
module _ (n : ℕ) (ds : List ℕ) (d : ℕ) (some : 1 ≤ length ds) (is : IsDecimal n (ds ++ (d ∷ []))) where
  front-entry : (P : ℕ → Type 0) (i : ℕ) → i < length ds → P (get_or (ds ++ (d ∷ [])) i 0) → P (get_or ds i 0)
  front-entry P i h p = rw (get_or-append ds (d ∷ []) 0 i h) at p

  front_nonzero : ¬ (get_or ds 0 0 ≡ 48)
  front_nonzero e = omega (arith, is.shortest (get_or-append ds (d ∷ []) 0 0 (omega arith) ∙ e), length_snoc ds d)

  front-least : (i : ℕ) → i < length ds → 48 ≤ get_or ds i 0
  front-least i h = front-entry (λ b. 48 ≤ b) i h (is.low i (omega (arith, length_snoc ds d)))

  is_front : IsDecimal (numeral ds) ds
  is_front =
      record {
        some = some;
        low = front-least;
        high = λ i h. front-entry (λ b. b ≤ 57) i h (is.high i (omega (arith, length_snoc ds d)));
        value = refl;
        shortest = λ e. absurd (front_nonzero e);
      }

  front-value : 1 ≤ numeral ds
  front-value =
      first-counts ds some
      (elim (dec_lt 48 (get_or ds 0 0)) [ yes l ↦ l | no l ↦ absurd (front_nonzero (omega (arith, front-least 0 (omega arith)))) ])

  last-digit : (48 ≤ d) × (d ≤ 57)
  last-digit =
      let at : length ds < length (ds ++ (d ∷ [])) = omega (arith, length_snoc ds d) in
      (rw (get_or-append_seam ds d [] 0) at (is.low (length ds) at), rw (get_or-append_seam ds d [] 0) at (is.high (length ds) at))

  -- n's tenth and its last digit
  front-tens : (n / 10 ≡ numeral ds) × (n % 10 + 48 ≡ d)
  front-tens =
      let t = tens n in
      let v = is.value in
      (omega (arith, t, last-digit, read_snoc 0 ds d), omega (arith, t, last-digit, read_snoc 0 ds d))

  one_snoc : ds ≡ decimal (numeral ds) → ds ++ (d ∷ []) ≡ decimal n
  one_snoc e =
      let q = front-tens.0 in
      let r : digit (n % 10) ≡ d = omega (arith, front-tens) in
      rw (decimal_step n (omega (arith, tens n, front-value)), q, r, ← e)

-- the last byte of a list, and those before it
last-split : (b : ℕ) (bytes : List ℕ) → take (length bytes) (b ∷ bytes) ++ (get_or (b ∷ bytes) (length bytes) 0 ∷ []) ≡ b ∷ bytes
last-split b bytes = sym (take-suc (b ∷ bytes) (length bytes) 0 (omega arith)) ∙ take-length (b ∷ bytes)

one_to : (k n : ℕ) (bytes : List ℕ) → length bytes < k → IsDecimal n bytes → bytes ≡ decimal n
one_to zero n bytes h is = absurd (omega arith)
one_to (suc k) n [] h is = absurd (omega (arith, is.some))
one_to (suc k) n (b ∷ []) h is =
    let l = is.low 0 (omega arith) in
    let g = is.high 0 (omega arith) in
    let v = is.value in
    let e : b ≡ digit n = omega arith in
    rw (decimal_one n (omega arith), e)
one_to (suc k) n (b ∷ c ∷ bytes) h is =
    let ds = take (length (c ∷ bytes)) (b ∷ c ∷ bytes) in
    let d = get_or (b ∷ c ∷ bytes) (length (c ∷ bytes)) 0 in
    let e = last-split b (c ∷ bytes) in
    let len = ap length e in
    let is' = rw (← e) at is in
    let rest = one_to k (numeral ds) ds (omega (arith, len, length_snoc ds d)) (is_front n ds d (omega arith) is') in
    sym e ∙ one_snoc n ds d (omega arith) is' rest

pub one_decimal : OneDecimal
one_decimal n bytes is = one_to (suc (length bytes)) n bytes (omega arith) is
