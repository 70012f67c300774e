-- Worked examples of the definitions: only the output is cut, and to m bits, and an exact value may be negative, as may an input.
use mathlib.Core.Path.{◌≡◌, refl}
use mathlib.Core.List.{[], ◌∷◌}
use lib.IntN.{pos, negsuc, ◌-ℤ◌}
use Rattle.integers.specs.Modulo.{remainder}
use Rattle.datapath.specs.Steps.{step_value, values, exact, output}
use Rattle.datapath.specs.declared.Step.TheVariants.{Input, Constant, Add, Subtract, Multiply}

-- x² at 3, for m 4, is 9
square : output 4 (Input 0 ∷ Multiply 0 0 ∷ []) (pos 3 ∷ []) ≡ 9
unfolding output exact values step_value remainder
square = refl

-- 0 − 169 is 87 modulo 2^8
negative : output 8 (Constant 0 ∷ Constant 169 ∷ Subtract 0 1 ∷ []) (pos 0 ∷ []) ≡ 87
unfolding output exact values step_value remainder
negative = refl

-- its exact value is −169
below-zero : exact (Constant 0 ∷ Constant 169 ∷ Subtract 0 1 ∷ []) (pos 0 ∷ []) ≡ pos 0 -ℤ pos 169
unfolding exact values step_value
below-zero = refl

-- the sum of two inputs times the constant 3
inputs : output 16 (Input 0 ∷ Input 1 ∷ Constant 3 ∷ Add 0 1 ∷ Multiply 3 2 ∷ []) (pos 5 ∷ pos 700 ∷ []) ≡ 2115
unfolding output exact values step_value remainder
inputs = refl

-- x² and x − 5 at −128, for m 8: 0 and 123
lowest_squared : output 8 (Input 0 ∷ Multiply 0 0 ∷ []) (negsuc 127 ∷ []) ≡ 0
unfolding output exact values step_value remainder
lowest_squared = refl

lowest-less : output 8 (Input 0 ∷ Constant 5 ∷ Subtract 0 1 ∷ []) (negsuc 127 ∷ []) ≡ 123
unfolding output exact values step_value remainder
lowest-less = refl
