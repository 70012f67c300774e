-- The laws of algorithm 1: its logarithm is the one number that it should be; one turn of its loop; a remainder of 0 adds no more; and m up to 2
-- needs no line of its own, by computing.
use mathlib.Core.Path.{◌≡◌, refl, sym, ◌∙◌, ap, ap₂}
use Prim.Native.Nat.{ℕ, zero, suc, ◌+◌, ◌-◌, ◌*◌, ◌/◌, ◌%◌, ◌^◌, ◌≤◌, ◌<◌}
use native.Mathlib.Nat.{zero-div, zero-mod}
use native.Mathlib.Numerals.{add-one}
use native.Mathlib.Omega.{arith}
use borrow.Author.Tests.{lt-ltb, le-ltb}
use lib.Count.{leading_top}
use lib.Dec.{ltb}
use lib.Pow.{pow_mono}
use Rattle.integers.proofs.Exponent.{below_power}
use Rattle.ranges.specs.Search.{first}
use Rattle.ranges.proofs.Search.{first_unique}
use Rattle.bound.specs.Bound.{log2, LogTwo, greedy, bound, AsPrinted}

pub log2_unique : (n v : ℕ) → 2 ^ v ≤ n → n < 2 ^ suc v → log2 n ≡ v
unfolding log2
log2_unique n v low high =
    first_unique (λ i. ltb n (2 ^ (i + 1))) 0 n v (omega arith) (omega (arith, low, below_power v))
    (lt-ltb n (2 ^ (v + 1)) (rw (add-one v) high))
    (λ i l h. le-ltb n (2 ^ (i + 1)) (omega (arith, low, pow_mono {i = i + 1} {j = v} (omega arith))))

pub log_two : LogTwo
log_two n h =
    let top = leading_top n n h (below_power n) in
    let e = log2_unique n top.0 top.2 top.3 in
    (rw e top.2, rw (e, add-one top.0) top.3)

-- nothing more comes of 0
pub greedy_0 : (v : ℕ) → greedy v 0 ≡ 0
unfolding greedy
greedy_0 zero = refl
greedy_0 (suc v) = ap₂ (λ q r. q + greedy v r) (zero-div (2 ^ suc v - 1)) (zero-mod (2 ^ suc v - 1)) ∙ ap (λ g. 0 + g) (greedy_0 v)

pub greedy-step : (v rem : ℕ) → 1 ≤ v → greedy v rem ≡ rem / (2 ^ v - 1) + greedy (v - 1) (rem % (2 ^ v - 1))
unfolding greedy
greedy-step zero rem h = absurd (omega arith)
greedy-step (suc v) rem h =
    let e : suc v - 1 ≡ v = omega arith in
    ap (λ i. rem / (2 ^ suc v - 1) + greedy i (rem % (2 ^ suc v - 1))) (sym e)

bound-small : (m : ℕ) → m ≤ 2 → bound m ≡ 2 * m
unfolding bound log2 first greedy
bound-small zero h = refl
bound-small (suc zero) h = refl
bound-small (suc (suc zero)) h = refl
bound-small (suc (suc (suc m))) h = absurd (omega arith)

pub as_printed : AsPrinted
as_printed = record { small = bound-small; turn = greedy-step; ended = greedy_0 }
