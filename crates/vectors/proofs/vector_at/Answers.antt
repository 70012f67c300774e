-- `vectors::vector_at` meets its contract. The loop's invariant: the entries before i are 0, those from i on are the digits so far, and the
-- rest counts blocks of the size of the axes from i on.
-- Assumes nothing.
use Rattle.std.proofs.Common.{◌≡◌, ℕ, zero, suc, ◌+◌, ◌-◌, ◌*◌, ◌/◌, ◌%◌, ◌^◌, ◌<◌, List, length, get_or, refl, take, drop, set, replicate, sym, ap, ◌∙◌, subst, mod-lt, div-add-mod', arith, length-take-le, get_or-set_other, get_or-take, w64, Fits, rules}
use lib.ListN.{get_or-replicate}
use Rattle.places.specs.Places.{size, digits_at}
use Rattle.places.proofs.Places.{one_to_one}
use Rattle.vectors.specs.Vectors.{held_at, Arrays}
use Rattle.vectors.proofs.Digits.{Digits, digit-most, place_set, placed, size-drop, size_dropped, written, zeros}
use Rattle.vectors.proofs.Raised.{arrays, held-integers}
use Rattle.vectors.proofs.vector_at.Invariants.{Decoded}
use Rattle.vectors.proofs.vector_at.Goals as goal

start : (axes lows : List ℕ) (d p : ℕ) → Arrays lows (take d axes) → length (take d axes) ≡ d → p < size (take d axes) → Decoded axes lows d p lows p d
start axes lows d p k l h =
    let us = take d axes in
    let z = zeros lows us (digits_at us p) d k l ((one_to_one us).below p h) in
    record {
      within = omega arith;
      long = l;
      known = k;
      vector = replicate d 0;
      digits = z.0;
      clear = λ j k. get_or-replicate d j 0 0 k;
      place = rw (z.1, size_dropped us d l) (omega arith);
    }

module _ {axes lows : List ℕ} {d p : ℕ} {v : List ℕ} {rest i : ℕ} (f : Decoded axes lows d p v rest i) (t : 0 < i) where
  abbrev us : List ℕ
  us = take d axes

  abbrev u : ℕ
  u = get_or axes (i - 1) 0

  inside : i - 1 < length us
  inside = omega (arith, f.within, f.long)

  axis : get_or us (i - 1) 0 ≡ u
  axis = get_or-take d axes (i - 1) 0 (omega (arith, f.within))

  some : 0 < u
  some = omega (arith, axis, digit-most f.known f.digits (i - 1) inside)

  more : (w : ℕ) → w ≡ (get_or lows (i - 1) 0 + rest % u) % 2 ^ 64 → Decoded axes lows d p (set v (i - 1) w) (rest / u) (i - 1)
  more w q =
      let x = f.vector in
      let s = size (drop i us) in
      let e : suc (i - 1) ≡ i = omega arith in
      record {
        within = omega (arith, f.within);
        long = f.long;
        known = f.known;
        vector = set x (i - 1) (rest % u);
        digits =
            subst (λ a. Digits lows us (set v (i - 1) a) (set x (i - 1) (rest % u))) (sym q)
            (written f.known f.digits (i - 1) (rest % u) inside (omega (arith, axis, mod-lt rest some)));
        clear = λ j l. get_or-set_other x (i - 1) j (rest % u) 0 (λ (n : j ≡ i - 1). omega arith) ∙ f.clear j (omega arith);
        place =
            rw (size-drop us (i - 1) inside, axis, e)
            (omega (arith, rw e at (place_set us x (i - 1) (rest % u) f.digits.below inside), ap (λ n. n * s) (f.clear (i - 1) (omega arith)), ap (λ n. n * s) (div-add-mod' rest u), f.place));
      }

-- nothing is left of a place below the size
end : (p q s rest : ℕ) → q + rest * s ≡ p → p < s → q ≡ p
end p q s zero e h = omega arith
end p q s (suc rest) e h = absurd (omega arith)

pub loop-i-init : goal.loop-i-init
loop-i-init c =
    let l = length-take-le c.args.d c.args.axes (search rules) in
    let lows : (i : ℕ) → get_or c.args.lows i 0 < 2 ^ 64 = λ i. (let f : Fits w64 (get_or c.args.lows i 0) = search rules in f.fits) in
    let axes : (i : ℕ) → get_or c.args.axes i 0 < 2 ^ 64 = λ i. (let f : Fits w64 (get_or c.args.axes i 0) = search rules in f.fits) in
    start _ _ _ _ (arrays _ _ _ (search rules) (search rules) c.requires.d_le_max_inputs lows axes) l c.requires.p_bound

pub nonzero_rem-v : goal.nonzero_rem-v
nonzero_rem-v c = some c.loop-i.invariant c.loop-i-test.true

pub nonzero_div-rest : goal.nonzero_div-rest
nonzero_div-rest c = some c.loop-i.invariant c.loop-i-test.true

pub loop-i-preserved : goal.loop-i-preserved
loop-i-preserved c = more c.loop-i.invariant c.loop-i-test.true _ refl

pub returns : goal.returns
returns c =
    let f = c.loop-i.invariant in
    let e : c.loop-i.i ≡ 0 = omega arith in
    let us = take c.args.d c.args.axes in
    let held = placed f.known f.digits _ (end _ _ _ _ (rw e at f.place) c.requires.p_bound) in
    record { words = held; integers = λ los n q. held ∙ ap (λ l. held_at l us c.args.p) q ∙ held-integers los us c.args.p n }
