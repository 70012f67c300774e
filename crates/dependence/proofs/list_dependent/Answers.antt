-- `dependence::list_dependent` meets its contract. The loop's invariant: the list has steps before step k, in increasing order, a step before k that is
-- not listed or has flag 0 does not depend on input j, and the flags from n on are as at entry.
-- Assumes nothing.
use mathlib.Core.List.{List}
use mathlib.Core.Path.{◌≡◌, refl, sym, ◌∙◌, ap}
use Prim.Native.Nat.{ℕ, ◌+◌, ◌≤◌, ◌<◌}
use native.Mathlib.Decide.{ℕ_discrete}
use native.Mathlib.Omega.{arith}
use borrow.Author.Count.{below_none, below_more}
use lib.ListN.{length, get_or, set, length-set}
use lib.Seq.{get_or-set_same, get_or-set_other, drop-set-lt}
use Rattle.dependence.specs.Dependence.{Fixed}
use Rattle.dependence.proofs.list_dependent.Invariants.{Gathered}
use Rattle.dependence.proofs.list_dependent.Goals.{then-may_depend, else-may_depend}
use Rattle.dependence.proofs.list_dependent.Goals as goal

none : (s : List ℕ) (n j : ℕ) (flags list : List ℕ) → Gathered s n j flags list flags list 0 0
none s n j flags list =
    record {
      few = omega arith;
      long_flags = refl;
      long_list = refl;
      listed = record { room = omega arith; below = below_none _; increasing = λ p q g h. omega arith };
      rest = below_none _;
      flagged = below_none _;
      kept = refl;
    }

module _
    (s : List ℕ) (n j : ℕ) (flags₀ list₀ flags list : List ℕ) (count k : ℕ)
    (r : Gathered s n j flags₀ list₀ flags list count k) (t : k < n) (room_flags : n ≤ length flags₀) (room_list : n ≤ length list₀)
  where
    -- step k has flag 1 and is listed
    listed_same : get_or (set list count k) count 0 ≡ k
    listed_same = get_or-set_same list count k 0 (omega (arith, r.few, r.long_list))

    listed-other : (q : ℕ) → q < count → get_or (set list count k) q 0 ≡ get_or list q 0
    listed-other q h = get_or-set_other list count q k 0 (λ (e : q ≡ count). omega arith)

    flag-other : (v i : ℕ) → i < k → get_or (set flags k v) i 0 ≡ get_or flags i 0
    flag-other v i h = get_or-set_other flags k i v 0 (λ (e : i ≡ k). omega arith)

    flag_same : (v : ℕ) → get_or (set flags k v) k 0 ≡ v
    flag_same v = get_or-set_same flags k v 0 (omega (arith, r.long_flags))

    taken : Gathered s n j flags₀ list₀ (set flags k 1) (set list count k) (count + 1) (k + 1)
    taken =
        record {
          few = omega (arith, r.few);
          long_flags = simp length-set r.long_flags;
          long_list = simp length-set r.long_list;
          listed =
              record {
                room = simp length-set (omega (arith, r.few, r.long_list));
                below = below_more _ count (λ q h. omega (arith, listed-other q h, r.listed.below q h)) (omega (arith, listed_same));
                increasing = increasing;
              };
          rest =
              below_more _ k
              (λ i h u. r.rest i h (λ q l e. u q (omega arith) (listed-other q l ∙ e)))
              (λ u. absurd (u count (omega arith) listed_same));
          flagged =
              below_more _ k
              (λ i h e. r.flagged i h (sym (flag-other 1 i h) ∙ e))
              (λ e. absurd (omega (arith, flag_same 1)));
          kept = drop-set-lt n flags k 1 t ∙ r.kept;
        }
      where
        increasing : (p q : ℕ) → p < q → q < count + 1 → get_or (set list count k) p 0 < get_or (set list count k) q 0
        increasing p q g h =
            elim (ℕ_discrete q count) [
              | yes e ↦ omega (arith, listed-other p (omega arith), r.listed.below p (omega arith), ap (λ i. get_or (set list count k) i 0) e, listed_same)
              | no e ↦ omega (arith, listed-other p (omega arith), listed-other q (omega arith), r.listed.increasing p q g (omega arith))
            ]

    -- step k has flag 0 and is not listed
    left : Fixed s j k → Gathered s n j flags₀ list₀ (set flags k 0) list count (k + 1)
    left fixed =
        record {
          few = omega (arith, r.few);
          long_flags = simp length-set r.long_flags;
          long_list = r.long_list;
          listed =
              record {
                room = r.listed.room;
                below = λ q h. omega (arith, r.listed.below q h);
                increasing = r.listed.increasing;
              };
          rest = below_more _ k r.rest (λ u. fixed);
          flagged = below_more _ k (λ i h e. r.flagged i h (sym (flag-other 0 i h) ∙ e)) (λ e. fixed);
          kept = drop-set-lt n flags k 0 t ∙ r.kept;
        }

pub loop-k-init : goal.loop-k-init
loop-k-init c = none _ _ _ _ _

pub may_depend-requires : goal.may_depend-requires
may_depend-requires c = record { counted = c.requires.counted; k_lt_n = (c.loop-k-test.true, omega (arith, c.loop-k.invariant.long_flags)) }

pub bounds-flags-k : goal.bounds-flags-k
bounds-flags-k c = omega (arith, c.loop-k.invariant.long_flags)

pub bounds-list-count : goal.bounds-list-count
bounds-list-count c = omega (arith, c.loop-k.invariant.long_list, c.loop-k.invariant.few)

pub bounds-flags-k-else-may_depend : goal.bounds-flags-k-else-may_depend
bounds-flags-k-else-may_depend c = omega (arith, c.loop-k.invariant.long_flags)

pub loop-k-preserved : goal.loop-k-preserved
loop-k-preserved c =
    let inv = c.loop-k.invariant in
    let t = c.loop-k-test.true in
    elim c.if-may_depend.branch [
      | then-may_depend w ↦ rw (w.flags-is, w.list-is, w.count-is) (taken _ _ _ _ _ _ _ _ _ inv t c.requires.n_in_bounds.0 c.requires.n_in_bounds.1)
      | else-may_depend w ↦
          rw (w.flags-is, w.list-is, w.count-is)
          (left _ _ _ _ _ _ _ _ _ inv t c.requires.n_in_bounds.0 c.requires.n_in_bounds.1 (c.may_depend.ensures inv.flagged w.if-may_depend.false))
    ]

pub shape_of-flags : goal.shape_of-flags
shape_of-flags c = c.loop-k.invariant.long_flags

pub shape_of-list : goal.shape_of-list
shape_of-list c = c.loop-k.invariant.long_list

pub returns : goal.returns
returns c =
    let inv = c.loop-k.invariant in
    let e : c.loop-k.k ≡ c.args.n = omega arith in
    record { listed = rw (← e) inv.listed; rest = rw (← e) inv.rest; kept = inv.kept }
