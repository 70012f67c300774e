-- The steps of a file (document 01, 'The datapath file'): operation 1 is an input, 2 a constant, 3 add, 4 subtract, 5 multiply.
--   step_at s k    step k of the file
--   steps_of s     all of its steps, in order
use Rattle.std.specs.Prelude.{cond, List, [], ◌∷◌, ℕ, zero, suc, ◌+◌, eqb}
use Rattle.datapath.specs.declared.Step.{Step}
use Rattle.datapath.specs.declared.Step.TheVariants.{Input, Constant, Add, Subtract, Multiply}
use Rattle.fields.specs.File.{step_count, operation, argument, left_operand, right_operand}

-- the step with operation byte o and argument a
unfoldable pub decoded : ℕ → ℕ → Step
decoded o a =
    cond (eqb o 1) (Input a)
    (cond (eqb o 2) (Constant a)
    (cond (eqb o 3) (Add (left_operand a) (right_operand a))
    (cond (eqb o 4) (Subtract (left_operand a) (right_operand a))
    (Multiply (left_operand a) (right_operand a)))))

unfoldable pub step_at : List ℕ → ℕ → Step
step_at s k = decoded (operation s k) (argument s k)

-- the k steps from step j on
unfoldable pub steps_from : List ℕ → ℕ → ℕ → List Step
steps_from s j zero = []
steps_from s j (suc k) = step_at s j ∷ steps_from s (j + 1) k

unfoldable pub steps_of : List ℕ → List Step
steps_of s = steps_from s 0 (step_count s)
