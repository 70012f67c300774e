-- What sizes given as numbers are refused by, under the tests that led to it; acceptance is given exactly where they keep their rules.
use mathlib.Core.Bool.{Bool, true, false, cond}
use mathlib.Core.Path.{◌≡◌, refl, ap}
use Prim.Native.Nat.{ℕ, suc}
use native.Mathlib.Omega.{arith}
use borrow.Author.Tests.{eqb-true}
use Rattle.sizes.specs.Sizes.{bad_output, bad_inputs, bad_widths, Ruled, refused_by, accepted, accepts, sizes_refusal}
use Rattle.sizes.specs.declared.Refusal.{Refusal}
use Rattle.sizes.specs.declared.Sizes.{Sizes}
use Rattle.sizes.proofs.Ruled.{ruled, output-passes, inputs_pass, widths_pass}

-- equal refusals have one number
pub number_of : {r q : Refusal} → r ≡ q → r.number ≡ q.number
number_of e = ap (λ (r : Refusal). r.number) e

-- an answer of number 0 was not given by a test
passed-test : (b : Bool) (k : ℕ) (r : Refusal) → (cond b (refused_by (suc k)) r).number ≡ 0 → (b ≡ false) × (r.number ≡ 0)
passed-test true k r e = absurd (omega arith)
passed-test false k r e = (refl, e)

module _ (z : Sizes) where
  pub sizes_2 : bad_output z ≡ true → sizes_refusal z ≡ refused_by 2
  unfolding sizes_refusal
  sizes_2 e = rw e

  module _ (o : bad_output z ≡ false) where
    pub sizes_3 : bad_inputs z ≡ true → sizes_refusal z ≡ refused_by 3
    unfolding sizes_refusal
    sizes_3 e = rw (o, e)

    module _ (i : bad_inputs z ≡ false) where
      pub sizes_5 : bad_widths z ≡ true → sizes_refusal z ≡ refused_by 5
      unfolding sizes_refusal
      sizes_5 e = rw (o, i, e)

      pub sizes_0 : bad_widths z ≡ false → sizes_refusal z ≡ accepted
      unfolding sizes_refusal
      sizes_0 e = rw (o, i, e)

  pub sizes-accepted : Ruled z → sizes_refusal z ≡ accepted
  sizes-accepted r = sizes_0 (output-passes z r) (inputs_pass z r) (widths_pass z r)

  pub sizes-ruled : (sizes_refusal z).number ≡ 0 → Ruled z
  unfolding sizes_refusal
  sizes-ruled e =
      let p2 = passed-test (bad_output z) 1 _ e in
      let p3 = passed-test (bad_inputs z) 2 _ p2.1 in
      let p5 = passed-test (bad_widths z) 4 _ p3.1 in
      ruled z p2.0 p3.0 p5.0

  -- sizes that are accepted show nothing
  pub sizes-accepts : accepts (sizes_refusal z) ≡ true → sizes_refusal z ≡ accepted
  sizes-accepts e = sizes-accepted (sizes-ruled (eqb-true _ 0 e))
