-- Algorithm 1 gives the least number, for every m. Let l be the remainder r and what the loop adds from v and r on. By induction on v, for every r
-- below 2^(v + 1) − 1: the exponent of two in l! is r or more; that in (l − 1)! is less, where r is above 0; and l is at most 2^(v + 1).
-- For l is q·2^v and the l of the turn after, with q at most 2, and the exponents come apart in the same way.
use mathlib.Core.Path.{◌≡◌, sym, ap, subst}
use Prim.Native.Nat.{ℕ, zero, suc, ◌+◌, ◌*◌, ◌-◌, ◌/◌, ◌%◌, ◌^◌, ◌≤◌, ◌<◌}
use native.Mathlib.Nat.{mod-lt, mod-add-div, two-pow-succ, mul-le-mul_left}
use native.Mathlib.Decide.{ℕ_discrete, dec_le, dec_lt}
use native.Mathlib.Numerals.{add-one}
use native.Mathlib.Omega.{arith}
use lib.Pow.{pow_pos}
use Rattle.integers.specs.Modulo.{factorial}
use Rattle.integers.proofs.Divisibility.{factorial-mod}
use Rattle.integers.proofs.Exponent.{power_coarse}
use Rattle.integers.proofs.Legendre.{twos, twos-exponent, twos-power, twos_of_power, twos-before}
use Rattle.bound.specs.Bound.{IsBound, log2, greedy, bound, LeastBound}
use Rattle.bound.proofs.Computed.{log_two, greedy_0}

-- a number is least where 2^m divides its factorial, and not that of the number before it: j! divides k! for j up to k
pub bound_neighbour : (m l : ℕ) → factorial l % 2 ^ m ≡ 0 → (0 < l → ¬ (factorial (l - 1) % 2 ^ m ≡ 0)) → IsBound m l
bound_neighbour m l whole short = record { divides = whole; least = least }
  where
    least : (k : ℕ) → factorial k % 2 ^ m ≡ 0 → l ≤ k
    least k e =
        elim (dec_le l k)
        [ yes h ↦ h | no n ↦ absurd (short (omega arith) (factorial-mod (2 ^ m) k (l - 1) (omega arith) e)) ]

-- l is right for r, from v on
record Right (v r l : ℕ) : Type 0 where
  enough : r ≤ twos l
  short : 0 < r → twos (l - 1) < r
  some : 0 < r → 0 < l
  none : r ≡ 0 → l ≡ 0
  most : l ≤ 2 ^ suc v

-- where the quotient is 1
module _ (v r l : ℕ) (few : r + 1 < 2 ^ suc v) (p : Right v r l) where
  above : 2 ≤ 2 ^ suc v
  above = omega (arith, two-pow-succ v, pow_pos v)

  once-enough : 2 ^ suc v - 1 + r ≤ twos (2 ^ suc v + l)
  once-enough =
      elim (dec_lt l (2 ^ suc v)) [
        | yes h ↦ omega (arith, twos-power (suc v) l h, p.enough)
        | no n ↦
            let e : 2 ^ suc v + l ≡ 2 ^ suc (suc v) = omega (arith, p.most, two-pow-succ (suc v)) in
            omega (arith, ap twos e, twos_of_power (suc (suc v)), two-pow-succ (suc v), above)
      ]

  once-short : twos (2 ^ suc v + l - 1) < 2 ^ suc v - 1 + r
  once-short =
      elim (ℕ_discrete r 0) [
        | yes z ↦
            let e : 2 ^ suc v + l - 1 ≡ 2 ^ suc v - 1 = omega (arith, p.none z) in
            omega (arith, ap twos e, twos-before (suc v))
        | no n ↦
            let s = p.some (omega arith) in
            let e : 2 ^ suc v + l - 1 ≡ 2 ^ suc v + (l - 1) = omega (arith, s) in
            omega (arith, ap twos e, twos-power (suc v) (l - 1) (omega (arith, s, p.most)), p.short (omega arith), above)
      ]

  once : Right (suc v) (2 ^ suc v - 1 + r) (2 ^ suc v + l)
  once =
      record {
        enough = once-enough;
        short = λ h. once-short;
        some = λ h. omega (arith, above);
        none = λ h. absurd (omega (arith, above));
        most = omega (arith, p.most, two-pow-succ (suc v));
      }

-- where it is 2, nothing remains
twice : (v : ℕ) → Right (suc v) (2 ^ suc (suc v) - 2) (2 ^ suc (suc v))
twice v =
    let e = two-pow-succ (suc v) in
    let h = two-pow-succ v in
    let g = pow_pos v in
    record {
      enough = omega (arith, twos_of_power (suc (suc v)));
      short = λ l. omega (arith, twos-before (suc (suc v)), e, h, g);
      some = λ l. omega (arith, e, h, g);
      none = λ l. absurd (omega (arith, e, h, g));
      most = omega arith;
    }

moved : {v r s l k : ℕ} → r ≡ s → l ≡ k → Right v r l → Right v s k
moved {v} {s = s} {l = l} e f p = subst (Right v s) f (subst (λ i. Right v i l) e p)

-- one turn: r is q times 2^(v + 1) − 1, and s
turn : (v r q s : ℕ) → r + 1 < 2 ^ suc (suc v) → r ≡ s + (2 ^ suc v - 1) * q → s + 1 < 2 ^ suc v → Right v s (s + greedy v s)
    → Right (suc v) r (r + (q + greedy v s))
turn v r zero s h e few p =
    let f : s ≡ r = omega arith in
    moved f (omega arith)
    (record { enough = p.enough; short = p.short; some = p.some; none = p.none; most = omega (arith, p.most, two-pow-succ (suc v)) })
turn v r (suc zero) s h e few p =
    moved (omega arith) (omega (arith, pow_pos (suc v))) (once v s (s + greedy v s) few p)
turn v r (suc (suc q)) s h e few p =
    let a = 2 ^ suc v - 1 in
    let u : a + 1 ≡ 2 ^ suc v = omega (arith, pow_pos (suc v)) in
    let b : r ≡ s + a * q + 2 * a = omega (arith, e) in
    let c : q * 1 ≤ q * a = mul-le-mul_left q (omega (arith, two-pow-succ v, pow_pos v)) in
    let z : (s ≡ 0) × (q ≡ 0) = (omega (arith, u, b, two-pow-succ (suc v)), omega (arith, u, b, c, two-pow-succ (suc v))) in
    moved (omega (arith, z, u, b, two-pow-succ (suc v))) (omega (arith, z, u, b, two-pow-succ (suc v), greedy_0 v, ap (greedy v) z.0)) (twice v)

right : (v r : ℕ) → r + 1 < 2 ^ suc v → Right v r (r + greedy v r)
unfolding greedy
right zero r h =
    record {
      enough = omega arith;
      short = λ l. absurd (omega arith);
      some = λ l. absurd (omega arith);
      none = λ e. omega arith;
      most = omega arith;
    }
right (suc v) r h =
    let a = 2 ^ suc v - 1 in
    let l : r % a < a = mod-lt r (omega (arith, two-pow-succ v, pow_pos v)) in
    turn v r (r / a) (r % a) h (sym (mod-add-div r a)) (omega arith) (right v (r % a) (omega arith))

pub least_bound : LeastBound
unfolding bound
least_bound m = bound_neighbour m l (power_coarse _ m _ p.enough (twos-exponent l).divides) short
  where
    l : ℕ
    l = m + greedy (log2 (1 + m)) m

    p : Right (log2 (1 + m)) m l
    p =
        let t : 1 + m < 2 ^ suc (log2 (1 + m)) = rw (add-one (log2 (1 + m))) at (log_two (1 + m) (omega arith)).1 in
        right (log2 (1 + m)) m (omega (arith, t))

    short : 0 < l → ¬ (factorial (l - 1) % 2 ^ m ≡ 0)
    short h d =
        let e = (twos-exponent (l - 1)).greatest m d in
        elim (ℕ_discrete m 0) [
          | yes z ↦ omega (arith, h, p.none z)
          | no n ↦ omega (arith, e, p.short (omega arith))
        ]
