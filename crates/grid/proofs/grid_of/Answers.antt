-- `grid::grid_of` meets its contract. The loop's invariant: the first i axes are in their place, and the size is their product. Assumes
-- nothing.
use borrow.Author.Rules.{rules}
use mathlib.Core.Path.{◌≡◌, refl, sym, ◌∙◌, ap, ap₂, subst}
use mathlib.Core.List.{List, map, map-map}
use Prim.Native.Nat.{ℕ, ◌+◌, ◌*◌, ◌^◌, ◌≤◌, ◌<◌, min}
use native.Mathlib.Omega.{arith}
use lib.ListN.{get_or, take, set, length-map, length-take}
use Rattle.bound.specs.Axes.{axis}
use Rattle.bound.proofs.Table.{bound-most}
use Rattle.formats.specs.Bytes.{format_of}
use Rattle.formats.specs.declared.Format.{Format}
use Rattle.grid.specs.Grid.{grid_of, grid_size, axes_of}
use Rattle.grid.proofs.Axes.{size_fits}
use Rattle.grid.proofs.Filled.{filled_more, filled-all}
use Rattle.lists.proofs.Lists.{map-take}
use Rattle.places.proofs.Places.{size_snoc}
use Rattle.places.specs.Places as Places
use Rattle.places.specs.Places.{size}
use Rattle.sizes.specs.Padded.{padded}
use Rattle.sizes.specs.Sizes.{max_inputs}
use Rattle.grid.proofs.grid_of.Goals.{After-axis-u}
use Rattle.grid.proofs.grid_of.Invariants.{axis_of, Sized}
use Rattle.grid.proofs.grid_of.Goals as goal

module _ (m d : ℕ) (widths axes : List ℕ) (size i : ℕ) (f : Sized m d widths axes size i) where
  more : (u : ℕ) → d ≤ max_inputs → i < d → u ≡ axis_of m (get_or widths i 0) → Sized m d widths (set axes i u) (size * u) (i + 1)
  more u h l e =
      record {
        front = filled_more (axis_of m) d widths axes i f.front h u l e;
        sized =
            rw (f.sized, e, map-take (axis_of m) widths i (omega (arith, f.front.known)))
            (sym (size_snoc (map (axis_of m) (take i widths)) (axis_of m (get_or widths i 0))));
      }

-- the invariant after one turn
next :
    (c : After-axis-u) →
    let z = c.args.z in
    let l = c.loop-i in
    Sized z.m z.d z.widths (set l.axes l.i c.axis-u.result) (l.size * c.axis-u.result) (l.i + 1)
unfolding axis
next c =
    let z = c.args.z in
    let l = c.loop-i in
    more z.m z.d z.widths l.axes l.size l.i l.invariant c.axis-u.result
    c.requires.1 c.loop-i-test.true
    (c.axis-u.ensures.0
    ∙ ap₂ (λ (f : Format) n. min (2 ^ f.length) n) c.format_of.ensures c.bound-most.ensures)

pub loop-i-init : goal.loop-i-init
unfolding size
loop-i-init c = record { front = record { known = search rules; within = omega arith; filled = refl }; sized = refl }

pub axis-u-requires : goal.axis-u-requires
axis-u-requires c =
    let p = c.requires.0 in
    rw c.bound-most.ensures (bound-most _ p.0 p.1)

pub overflow_mul-size : goal.overflow_mul-size
overflow_mul-size c =
    let z = c.args.z in
    let p = c.requires in
    let i = c.loop-i.i in
    let f = next c in
    record {
      fits =
          subst (λ n. n < 2 ^ 64) (sym (f.sized ∙ ap Places.size (sym (map-map (axis z.m) format_of (take (i + 1) z.widths)))))
          (size_fits z.m p.0.0 p.0.1 (map format_of (take (i + 1) z.widths)) (rw (length-map, length-take) (omega (arith, p.1, f.front.within))));
    }

pub loop-i-preserved : goal.loop-i-preserved
loop-i-preserved c = next c

pub returns : goal.returns
unfolding grid_of grid_size axes_of
returns c =
    let z = c.args.z in
    let l = c.loop-i in
    let f = l.invariant in
    let all : l.i ≡ z.d = omega arith in
    let same = sym (map-map (axis z.m) format_of (take z.d z.widths)) in
    let filled = filled-all (axis_of z.m) z.d z.widths l.axes l.i f.front c.requires.1 all ∙ ap padded same in
    let sized = f.sized ∙ ap (λ i. Places.size (map (axis_of z.m) (take i z.widths))) all ∙ ap Places.size same in
    λ j. record { axes = filled j; size = sized j }
