-- What the conditions on the sizes tell, as orders of numbers: each test is opened, and its parts are read by the laws of tests.
-- Assumes nothing.
use mathlib.Core.Bool.{true, false, and-eq-true_iff}
use mathlib.Core.Path.{◌≡◌, sym, ◌∙◌}
use Prim.Native.Nat.{ℕ, ◌≤◌, ◌<◌}
use native.Mathlib.Omega.{arith}
use lib.Dec.{leb, eqb}
use lib.ListN.{get_or}
use borrow.Author.Tests.{leb-true, lt-ltb, le-ltb, eqb-true, not-false}
use Rattle.ranges.proofs.Search.{every-at}
use Rattle.sizes.specs.declared.Sizes.{Sizes}
use Rattle.sizes.specs.Sizes.{within, max_inputs, format_at, bad_output, bad_inputs, bad_widths, width_rule, OutputRuled, InputsRuled, Sound}

pub within-range : (low high n : ℕ) → within low high n ≡ true → (low ≤ n) × (n ≤ high)
within-range low high n e =
    let both = (and-eq-true_iff (leb low n) (leb n high)).0 e in
    (leb-true low n both.0, leb-true n high both.1)

module _ (z : Sizes) where
  pub output-range : bad_output z ≡ false → OutputRuled z
  unfolding bad_output
  output-range e = within-range 1 64 z.m (not-false _ e)

  pub inputs-range : bad_inputs z ≡ false → InputsRuled z
  unfolding bad_inputs
  inputs-range e = within-range 1 max_inputs z.d (not-false _ e)

  pub sound : bad_output z ≡ false → bad_inputs z ≡ false → Sound z
  sound o i = (output-range o, (inputs-range i).1)

  -- the rule of width byte i, by its place
  pub rule_used : (i : ℕ) → i < z.d → width_rule z i ≡ within 1 64 (format_at z i).length
  unfolding width_rule
  rule_used i l = simp (lt-ltb i z.d l)

  pub rule-unused : (i : ℕ) → z.d ≤ i → width_rule z i ≡ eqb (get_or z.widths i 0) 0
  unfolding width_rule
  rule-unused i l = simp (le-ltb i z.d l)

  rule-at : bad_widths z ≡ false → (i : ℕ) → i < max_inputs → width_rule z i ≡ true
  unfolding bad_widths
  rule-at e i l = every-at (width_rule z) 0 max_inputs i (not-false _ e) (omega arith) (omega arith)

  pub width_used : bad_widths z ≡ false → (i : ℕ) → i < z.d → i < max_inputs → (1 ≤ (format_at z i).length) × ((format_at z i).length ≤ 64)
  width_used e i l h = within-range 1 64 (format_at z i).length (sym (rule_used i l) ∙ rule-at e i h)

  pub width-unused : bad_widths z ≡ false → (i : ℕ) → z.d ≤ i → i < max_inputs → get_or z.widths i 0 ≡ 0
  width-unused e i l h = eqb-true _ 0 (sym (rule-unused i l) ∙ rule-at e i h)
