-- The lines of a grid: of the digits of place p, those before the last are the digits of place p / u of the grid without the last axis u, and the
-- last one is p % u. Those before the last are below their axes.
-- Assumes nothing.
use mathlib.Core.Path.{◌≡◌, ◌∙◌, ap}
use mathlib.Core.List.{List, [], ◌∷◌, ◌++◌}
use Prim.Native.Nat.{ℕ, suc, ◌*◌, ◌-◌, ◌/◌, ◌%◌, ◌≤◌, ◌<◌}
use native.Mathlib.Nat.{div-lt_iff_lt-mul}
use native.Mathlib.Omega.{arith}
use lib.ListN.{length, get_or, take, get_or-append, get_or-eq_default}
use lib.Seq.{get_or_at, get_or-take, length-take-le, take-suc}
use Rattle.places.specs.Places.{size, digits_at}
use Rattle.places.proofs.LastAxis.{length-below, vector_snoc}
use Rattle.places.proofs.Places.{one_to_one, rest-least, size_snoc}
use Rattle.vectors.proofs.Digits.{below_at}

module _ (axes : List ℕ) (d : ℕ) (low : 1 ≤ d) (high : d ≤ length axes) where
  axes_snoc : take d axes ≡ take (d - 1) axes ++ (get_or axes (d - 1) 0 ∷ [])
  axes_snoc =
      let e : d ≡ suc (d - 1) = omega arith in
      ap (λ k. take k axes) e ∙ take-suc axes (d - 1) 0 (omega arith)

  pub size-lines : size (take d axes) ≡ size (take (d - 1) axes) * get_or axes (d - 1) 0
  size-lines = ap size axes_snoc ∙ size_snoc (take (d - 1) axes) (get_or axes (d - 1) 0)

  -- where there is a vector, the last axis is not 0
  pub last-axis-least : (p : ℕ) → p < size (take d axes) → 0 < get_or axes (d - 1) 0
  last-axis-least p h = rest-least (size (take (d - 1) axes)) (get_or axes (d - 1) 0) p (rw size-lines at h)

  -- the vector at place r of the grid without the last axis
  module _ (r : ℕ) (h : r < size (take (d - 1) axes)) where
    length_front : length (digits_at (take (d - 1) axes) r) ≡ d - 1
    length_front = length-below (take (d - 1) axes) _ ((one_to_one (take (d - 1) axes)).below r h) ∙ length-take-le (d - 1) axes (omega arith)

    pub front-most : (i : ℕ) → i < d - 1 → get_or (digits_at (take (d - 1) axes) r) i 0 < get_or axes i 0
    front-most i g =
        let at : get_or (take (d - 1) axes) i 0 ≡ get_or axes i 0 = rw get_or-take in
        omega (
          arith,
          at,
          below_at (take (d - 1) axes) (digits_at (take (d - 1) axes) r) i ((one_to_one (take (d - 1) axes)).below r h)
              (omega (arith, length-take-le (d - 1) axes (omega arith))),
        )

    pub front-last : get_or (digits_at (take (d - 1) axes) r) (d - 1) 0 ≡ 0
    front-last = get_or-eq_default (digits_at (take (d - 1) axes) r) 0 {n = d - 1} (omega (arith, length_front))

  module _ (p : ℕ) (h : p < size (take d axes)) where
    line : p / get_or axes (d - 1) 0 < size (take (d - 1) axes)
    line = (div-lt_iff_lt-mul (last-axis-least p h)).1 (rw size-lines at h)

    abbrev front : List ℕ
    front = digits_at (take (d - 1) axes) (p / get_or axes (d - 1) 0)

    split : digits_at (take d axes) p ≡ front ++ (p % get_or axes (d - 1) 0 ∷ [])
    split = ap (λ us. digits_at us p) axes_snoc ∙ vector_snoc (take (d - 1) axes) (get_or axes (d - 1) 0) p (rw size-lines at h)

    pub line-front : (i : ℕ) → i < d - 1 → get_or (digits_at (take d axes) p) i 0 ≡ get_or (digits_at (take (d - 1) axes) (p / get_or axes (d - 1) 0)) i 0
    line-front i l = ap (λ v. get_or v i 0) split ∙ get_or-append front _ 0 i (omega (arith, length_front _ line))

    pub line-last : get_or (digits_at (take d axes) p) (d - 1) 0 ≡ p % get_or axes (d - 1) 0
    line-last = ap (λ v. get_or v (d - 1) 0) split ∙ get_or_at front _ [] 0 (d - 1) (length_front _ line)
