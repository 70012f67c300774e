-- `input_words::in_format` meets its contract: of a signed input, the two tests are those of the definition, since −1 less the lowest value is the
-- highest (proofs/Casts); of an unsigned one, the words that a cut to n bits leaves as they are are those below 2^n.
-- Assumes nothing.
use mathlib.Core.Path.{◌≡◌, sym, ◌∙◌, ap}
use Prim.Native.Nat.{ℕ, ◌-◌, ◌%◌, ◌^◌}
use native.Mathlib.Decide.{dec_lt}
use native.Mathlib.Nat.{mod-eq_of_lt, mod-lt}
use native.Mathlib.Omega.{arith}
use borrow.Author.Rules.{sfits_of}
use borrow.Author.Tests.{eq-eqb, ne_eqb, le-leb, lt-leb}
use lib.Dec.{eqb, leb}
use lib.Pow.{pow_pos}
use mir.Syntax.{w64}
use mir.ValLaws.{to_z-of_z}
use Rattle.input_words.proofs.Complement.{complement_fits}
use Rattle.input_words.proofs.InputWords.{in_unsigned}
use Rattle.input_words.proofs.in_format.Goals as goal

-- a word that n bits hold is its own cut to them
cut-test : (w n : ℕ) → eqb (w % 2 ^ n) w ≡ leb w (2 ^ n - 1)
cut-test w n =
    let h = pow_pos n in
    elim (dec_lt w (2 ^ n)) [
      | yes l ↦ eq-eqb (w % 2 ^ n) w (mod-eq_of_lt l) ∙ sym (le-leb w (2 ^ n - 1) (omega arith))
      | no l ↦ ne_eqb (w % 2 ^ n) w (λ e. omega (arith, mod-lt w h)) ∙ sym (lt-leb w (2 ^ n - 1) (omega arith))
    ]

pub overflow_sub-high : goal.overflow_sub-high
overflow_sub-high c =
    let f = sfits_of c.lowest_value-low.type_inv in
    complement_fits c.lowest_value-low.result _ (to_z-of_z w64 c.lowest_value-low.result f) f

pub returns-else-f : goal.returns-else-f
returns-else-f c =
    ap (λ r. eqb r c.args.w) c.cut.ensures
    ∙ cut-test c.args.w c.args.f.length
    ∙ sym (in_unsigned c.args.f c.args.w c.if-f.false)
