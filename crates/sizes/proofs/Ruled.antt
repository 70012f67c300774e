-- Sizes pass the tests 2, 3 and 5 exactly where they keep the rules: each test is opened one way, and computed the other.
-- Assumes nothing.
use mathlib.Core.Bool.{true, false, not}
use mathlib.Core.Path.{◌≡◌, ◌∙◌, ap}
use Prim.Native.Nat.{ℕ, ◌≤◌, ◌<◌}
use native.Mathlib.Decide.{dec_lt}
use native.Mathlib.Omega.{arith}
use lib.ListN.{get_or}
use borrow.Author.Tests.{le-leb, eq-eqb}
use Rattle.ranges.proofs.Search.{every_of}
use Rattle.sizes.specs.Sizes.{within, max_inputs, format_at, bad_output, bad_inputs, bad_widths, width_rule, OutputRuled, InputsRuled, Ruled, RuledExactly, Sound}
use Rattle.sizes.specs.declared.Sizes.{Sizes}
use Rattle.sizes.proofs.Ranges.{output-range, inputs-range, rule_used, rule-unused, width_used, width-unused}

pub range-within : (low high n : ℕ) → low ≤ n → n ≤ high → within low high n ≡ true
range-within low high n l h = rw (le-leb low n l) (le-leb n high h)

module _ (z : Sizes) where
  pub output-within : OutputRuled z → bad_output z ≡ false
  unfolding bad_output
  output-within r = ap not (range-within 1 64 z.m r.0 r.1)

  pub inputs-within : InputsRuled z → bad_inputs z ≡ false
  unfolding bad_inputs
  inputs-within r = ap not (range-within 1 max_inputs z.d r.0 r.1)

  pub ruled : bad_output z ≡ false → bad_inputs z ≡ false → bad_widths z ≡ false → Ruled z
  ruled o i w =
      let m = output-range z o in
      let d = inputs-range z i in
      record {
        output_low = m.0;
        output_high = m.1;
        inputs_low = d.0;
        inputs_high = d.1;
        width_low = λ k l. (width_used z w k l (omega arith)).0;
        width_high = λ k l. (width_used z w k l (omega arith)).1;
        width_unused = width-unused z w;
      }

  module _ (r : Ruled z) where
    pub ruled-sound : Sound z
    ruled-sound = ((r.output_low, r.output_high), r.inputs_high)

    pub output-passes : bad_output z ≡ false
    output-passes = output-within (r.output_low, r.output_high)

    pub inputs_pass : bad_inputs z ≡ false
    inputs_pass = inputs-within (r.inputs_low, r.inputs_high)

    width-passes : (i : ℕ) → i < max_inputs → width_rule z i ≡ true
    width-passes i h =
        elim (dec_lt i z.d) [
          | yes l ↦ rule_used z i l ∙ range-within 1 64 (format_at z i).length (r.width_low i l) (r.width_high i l)
          | no n ↦ rule-unused z i (omega arith) ∙ eq-eqb (get_or z.widths i 0) 0 (r.width_unused i (omega arith) h)
        ]

    pub widths_pass : bad_widths z ≡ false
    unfolding bad_widths
    widths_pass = ap not (every_of (width_rule z) 0 max_inputs (λ i _ h. width-passes i (omega arith)))

pub ruled_exactly : RuledExactly
ruled_exactly z = (λ p. ruled z p.0 p.1.0 p.1.1, λ r. (output-passes z r, (inputs_pass z r, widths_pass z r)))
