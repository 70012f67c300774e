-- Little-endian reading. A number of n + k bytes is the number of the first n and, 256^n times, that of the next k; and the sum by which the
-- library reads an array of bytes is `little` where these are the bytes of s from i on. By induction on the count of bytes. Assumes nothing.
use Rattle.std.proofs.Common.{◌≡◌, ◌∙◌, ap, ℕ, zero, suc, ◌+◌, ◌*◌, ◌^◌, ◌≤◌, List, add-zero, suc-add, one-mul, pow-suc, zero-add, arith}
use native.Mathlib.Numerals.{add-one}
use Rattle.std.specs.Int.{sum_through, byte_worth}
use Rattle.std.specs.Prelude.{slice_index}
use Rattle.words.specs.Bytes.{little}

pub little-join : (n k : ℕ) (s : List ℕ) (i : ℕ) → little (n + k) s i ≡ little n s i + 256 ^ n * little k s (i + n)
unfolding little
little-join zero k s i = simp (zero-add, add-zero, one-mul)
little-join (suc n) k s i =
    let next : i + suc n ≡ i + 1 + n = omega arith in
    simp (suc-add, pow-suc, next, little-join n k s (i + 1)) (omega arith)

one-byte : (s : List ℕ) (i : ℕ) → little 1 s i ≡ slice_index s i
unfolding little
one-byte s i = omega arith

pub sum_through-bytes :
    (k : ℕ) (bytes s : List ℕ) (i : ℕ) → ((j : ℕ) → j ≤ k → slice_index bytes j ≡ slice_index s (i + j)) →
    sum_through (λ j. byte_worth j (slice_index bytes j)) k ≡ little (suc k) s i
sum_through-bytes zero bytes s i same =
    rw (one-byte s i) (same 0 (omega arith) ∙ ap (λ n. slice_index s n) (add-zero i))
sum_through-bytes (suc k) bytes s i same =
    let before : sum_through (λ j. byte_worth j (slice_index bytes j)) k ≡ little (suc k) s i =
    sum_through-bytes k bytes s i (λ j h. same j (omega arith)) in
    let last : slice_index bytes (suc k) ≡ little 1 s (i + suc k) = rw (one-byte s (i + suc k)) (same (suc k) (omega arith)) in
    let joined : little (suc k + 1) s i ≡ little (suc k) s i + 256 ^ suc k * little 1 s (i + suc k) = little-join (suc k) 1 s i in
    let e : sum_through (λ j. byte_worth j (slice_index bytes j)) k + slice_index bytes (suc k) * 256 ^ suc k ≡ little (suc k + 1) s i =
    rw before (rw last (rw joined (omega arith))) in
    e ∙ ap (λ n. little n s i) (add-one (suc k))
