-- `bound::bound` meets its contract. The loop's invariant: what is added up and what is still to come make what algorithm 1 adds to m, and
-- what remains is below 2^v − 1, for the last v. Assumes nothing.
use mathlib.Core.Path.{◌≡◌, ◌∙◌, ap}
use Prim.Native.Nat.{ℕ, ◌+◌, ◌*◌, ◌-◌, ◌/◌, ◌%◌, ◌^◌, ◌≤◌, ◌<◌}
use native.Mathlib.Nat.{mod-lt, two-pow-succ}
use native.Mathlib.Numerals.{add-one}
use native.Mathlib.Decide.{dec_le}
use native.Mathlib.Omega.{arith}
use lib.Pow.{pow_pos, pow_mono}
use Rattle.integers.proofs.Exponent.{power_shifted}
use Rattle.bound.specs.Bound.{bound, log2, greedy}
use Rattle.bound.proofs.Computed.{log2_unique, greedy_0, greedy-step}
use Rattle.bound.proofs.Table.{bound-most}
use Rattle.bound.proofs.bound.Invariants.{Adding}
use Rattle.bound.proofs.bound.Goals.{else-loop-v-test, then-loop-v-test+then-rem-eq0}
use Rattle.bound.proofs.bound.Goals as goal

start : (m j : ℕ) → 1 ≤ m → m ≤ 64 → 2 ^ j ≤ 1 + m → 1 + m < 2 * 2 ^ j → Adding m (j + 1) m 0
start m j low high least most =
    let e : j + 1 - 1 ≡ j = omega arith in
    let l : log2 (1 + m) ≡ j = log2_unique (1 + m) j least (omega (arith, two-pow-succ j)) in
    record {
      low = low;
      high = high;
      above = omega arith;
      adds = rw (e, l) (omega arith);
      remains = rw (add-one j) (omega (arith, two-pow-succ j));
      few =
          elim (dec_le j 6) [
            | yes l ↦ omega arith
            | no n ↦ absurd (omega (arith, least, pow_mono {i = 7} {j = j} (omega arith)))
          ];
    }

-- 2^v − 1, in the word's arithmetic
abbrev part : ℕ → ℕ
part v = 1 * 2 ^ v % 2 ^ 32 - 1

module _ (m v rem n : ℕ) (p : Adding m v rem n) where
  -- no more is added than to the largest bound
  adds-most : n + greedy (v - 1) rem ≤ 66
  unfolding bound
  adds-most = omega (arith, p.adds, bound-most m p.low p.high)

  -- where nothing remains, all is added
  nothing : rem ≡ 0 → n ≡ greedy (log2 (1 + m)) m
  nothing e = omega (arith, p.adds, greedy_0 (v - 1), ap (greedy (v - 1)) e)

  -- after the last v nothing remains
  ended : v ≤ 1 → n ≡ greedy (log2 (1 + m)) m
  ended h = let e : v ≡ 1 = omega (arith, p.above) in nothing (omega (arith, rw e at p.remains))

  module _ (more : 1 < v) where
    exact : part (v - 1) ≡ 2 ^ (v - 1) - 1
    exact = ap (λ x. x - 1) (power_shifted 32 (v - 1) (omega (arith, p.few)))

    part-least : 0 < part (v - 1)
    part-least = rw exact (omega (arith, pow_mono {i = 1} {j = v - 1} (omega arith)))

    adds-step : n + rem / part (v - 1) + greedy (v - 1 - 1) (rem % part (v - 1)) ≡ n + greedy (v - 1) rem
    adds-step = rw exact (omega (arith, greedy-step (v - 1) rem (omega arith)))

    next : Adding m (v - 1) (rem % part (v - 1)) (n + rem / part (v - 1))
    next =
        record {
          low = p.low;
          high = p.high;
          above = omega arith;
          adds = adds-step ∙ p.adds;
          remains = omega (arith, mod-lt rem part-least, exact, pow_pos (v - 1));
          few = omega (arith, p.few);
        }

pub loop-v-init : goal.loop-v-init
loop-v-init c = start c.args.m c.ilog2-v.result c.requires.0 c.requires.1 c.ilog2-v.ensures.power_le c.ilog2-v.ensures.next_power_gt

pub nonzero_div-n : goal.nonzero_div-n
nonzero_div-n c = part-least _ _ _ _ c.loop-v.invariant c.loop-v-test.true

pub overflow_add-n : goal.overflow_add-n
overflow_add-n c =
    let l = c.loop-v in
    record { fits = omega (arith, adds-step _ _ _ _ l.invariant c.loop-v-test.true, adds-most _ _ _ _ l.invariant) }

pub nonzero_rem-rem : goal.nonzero_rem-rem
nonzero_rem-rem c = part-least _ _ _ _ c.loop-v.invariant c.loop-v-test.true

pub loop-v-preserved : goal.loop-v-preserved
loop-v-preserved c = next _ _ _ _ c.loop-v.invariant c.loop-v-test.true

pub overflow_add-result : goal.overflow_add-result
overflow_add-result c = let l = c.loop-v in record { fits = omega (arith, adds-most _ _ _ _ l.invariant, l.invariant.high) }

pub returns : goal.returns
unfolding bound
returns c =
    let p = c.loop-v.invariant in
    ap (λ g. c.args.m + g)
    (c.from.ensures
    ∙ elim c.loop-v-test.branch [
      | else-loop-v-test w ↦ ended _ _ _ _ p (omega (arith, w.loop-v-test.false))
      | then-loop-v-test+then-rem-eq0 w ↦ nothing _ _ _ _ p w.if-rem-eq0.true
    ])
