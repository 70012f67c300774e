-- The derived equality of sizes is that of m, d and all width bytes; and what decides whether these are the same, one after the other.
-- Assumes nothing.
use mathlib.Core.Bool.{Bool, true, false, ◌&&◌, and-eq-true_iff}
use mathlib.Core.Path.{◌≡◌, refl, sym, ◌∙◌, ap}
use borrow.Author.Tests.{eq-eqb, eqb-true}
use lib.Dec.{eqb}
use Prim.Native.Nat.{ℕ}
use lib.ListN.{length, get_or}
use Rattle.ranges.specs.Search.{every}
use lib.Pointwise.{pointwise, bytes_decides}
use Rattle.sizes.specs.Sizes.{max_inputs}
use Rattle.sizes.specs.declared.Sizes.{Sizes}
use Rattle.sessions.specs.Session.{same_sizes}
use Rattle.sessions.proofs.Pair.{same-equal, same_refl}

-- Booleans that are true together are equal
together : (a b : Bool) → (a ≡ true → b ≡ true) → (b ≡ true → a ≡ true) → a ≡ b
together true b f g = sym (f refl)
together false true f g = g refl
together false false f g = refl

pub derived_same :
    (z w : Sizes) → length z.widths ≡ max_inputs → length w.widths ≡ max_inputs
    → (eqb z.m w.m && (eqb z.d w.d && pointwise eqb z.widths w.widths)) ≡ same_sizes z w
derived_same z w lz lw = together _ _ there back
  where
    there : (eqb z.m w.m && (eqb z.d w.d && pointwise eqb z.widths w.widths)) ≡ true → same_sizes z w ≡ true
    there e =
        let p = (and-eq-true_iff _ _).0 e in
        let q = (and-eq-true_iff _ _).0 p.1 in
        let m = eqb-true z.m w.m p.0 in
        let d = eqb-true z.d w.d q.0 in
        let widths = (bytes_decides z.widths w.widths).0 q.1 in
        let same : z ≡ w = λ i. record { m = m i; d = d i; widths = widths i } in
        ap (same_sizes z) (sym same) ∙ same_refl z

    back : same_sizes z w ≡ true → (eqb z.m w.m && (eqb z.d w.d && pointwise eqb z.widths w.widths)) ≡ true
    back e =
        let same = same-equal z w lz lw e in
        simp
        (eq-eqb _ _ (ap (λ (z : Sizes). z.m) same), eq-eqb _ _ (ap (λ (z : Sizes). z.d) same), (bytes_decides z.widths w.widths).1 (ap (λ (z : Sizes). z.widths) same))

-- m decides, then d, and where both are the same the width bytes
module _ (z w : Sizes) where
  pub differ_m : eqb z.m w.m ≡ false → false ≡ same_sizes z w
  unfolding same_sizes
  differ_m e = rw e refl

  pub differ_d : eqb z.m w.m ≡ true → eqb z.d w.d ≡ false → false ≡ same_sizes z w
  unfolding same_sizes
  differ_d e f = rw (e, f) refl

  pub same_widths : z.m ≡ w.m → z.d ≡ w.d → every (λ (i : ℕ). eqb (get_or z.widths i 0) (get_or w.widths i 0)) 0 max_inputs ≡ same_sizes z w
  unfolding same_sizes
  same_widths e f = rw (eq-eqb z.m w.m e, eq-eqb z.d w.d f) refl
