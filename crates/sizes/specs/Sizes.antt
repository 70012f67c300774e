-- Conditions on the sizes, each under document 01's number ('Refused because of the input').
--   output_length m   what 2 asks: m is 1 to 64
--   bad_output    2. m is not 1 to 64
--   input_count d     what 3 asks: d is 1 to max_inputs
--   bad_inputs    3. d is not 1 to max_inputs
--   format_at z i  the format of input i: what its width byte gives
--   formats_of z  the formats of the d inputs
--   bad_widths    5. a width byte breaks its rule: a word length of 1 to 64 for the first d, signed or not, and 0 for the others, the whole byte
--   refused_by k  the refusal under the number k that shows no file and no step
--   accepted     acceptance: number 0
--   accepts r    the call that answers r is accepted
--   is_refusal r  and that it is refused
--   sizes_refusal z  what sizes given as numbers are refused by, or acceptance: 2, 3, 5
--   max_inputs    the largest count of inputs, and so of width bytes
--   OutputLength m  what 2 asks, with no test in it
--   OutputRuled z   2 with no test in it: m is 1 to 64
--   InputsRuled z   3 with no test in it: d is 1 to max_inputs
--   Ruled z      2, 3 and 5 with no test in them: m is 1 to 64, d is 1 to max_inputs, and each width byte keeps its rule
--   RuledExactly sizes pass the tests 2, 3 and 5 exactly there. Proved in proofs/Ruled
--   Sound z      m is 1 to 64, and d is at most max_inputs: what a grid asks
use Rattle.std.specs.Prelude.{Bool, false, not, cond, ◌&&◌, List, map, ◌↔◌, ◌≡◌, ℕ, ◌≤◌, ◌<◌, leb, ltb, eqb, get_or, take}
use Rattle.formats.specs.Bytes.{format_of}
use Rattle.formats.specs.declared.Format.{Format}
use Rattle.ranges.specs.Search.{every}
use Rattle.sizes.specs.declared.Refusal.{Refusal}
use Rattle.sizes.specs.declared.Sizes.{Sizes}

abbrev pub max_inputs : ℕ
max_inputs = 10

-- the number n is in the range from low to high, ends included
abbrev pub within : ℕ → ℕ → ℕ → Bool
within low high n = leb low n && leb n high

abbrev pub output_length : ℕ → Bool
output_length m = within 1 64 m

abbrev pub input_count : ℕ → Bool
input_count d = within 1 max_inputs d

unfoldable pub bad_output : Sizes → Bool
bad_output z = not (output_length z.m)

unfoldable pub bad_inputs : Sizes → Bool
bad_inputs z = not (input_count z.d)

abbrev pub format_at : Sizes → ℕ → Format
format_at z i = format_of (get_or z.widths i 0)

abbrev pub formats_of : Sizes → List Format
formats_of z = map format_of (take z.d z.widths)

-- width byte i keeps its rule
unfoldable pub width_rule : Sizes → ℕ → Bool
width_rule z i = cond (ltb i z.d) (within 1 64 (format_at z i).length) (eqb (get_or z.widths i 0) 0)

unfoldable pub bad_widths : Sizes → Bool
bad_widths z = not (every (width_rule z) 0 max_inputs)

abbrev pub OutputLength : ℕ → Type 0
OutputLength m = (1 ≤ m) × (m ≤ 64)

abbrev pub OutputRuled : Sizes → Type 0
OutputRuled z = OutputLength z.m

abbrev pub InputsRuled : Sizes → Type 0
InputsRuled z = (1 ≤ z.d) × (z.d ≤ max_inputs)

pub record Ruled (z : Sizes) : Type 0 where
  pub output_low : 1 ≤ z.m
  pub output_high : z.m ≤ 64
  pub inputs_low : 1 ≤ z.d
  pub inputs_high : z.d ≤ max_inputs
  pub width_low : (i : ℕ) → i < z.d → 1 ≤ (format_at z i).length
  pub width_high : (i : ℕ) → i < z.d → (format_at z i).length ≤ 64
  pub width_unused : (i : ℕ) → z.d ≤ i → i < max_inputs → get_or z.widths i 0 ≡ 0

abbrev pub RuledExactly : Type 0
RuledExactly =
    (z : Sizes) → ((bad_output z ≡ false) × ((bad_inputs z ≡ false) × (bad_widths z ≡ false))) ↔ Ruled z

abbrev pub Sound : Sizes → Type 0
Sound z = OutputRuled z × (z.d ≤ max_inputs)

abbrev pub refused_by : ℕ → Refusal
refused_by k = record { number = k; file = 0; step = 0 }

abbrev pub accepted : Refusal
accepted = refused_by 0

abbrev pub accepts : Refusal → Bool
accepts r = eqb r.number 0

abbrev pub is_refusal : Refusal → Bool
is_refusal r = not (accepts r)

unfoldable pub sizes_refusal : Sizes → Refusal
sizes_refusal z =
    cond (bad_output z) (refused_by 2)
    (cond (bad_inputs z) (refused_by 3)
    (cond (bad_widths z) (refused_by 5) accepted))
