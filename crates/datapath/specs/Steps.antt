-- The steps of a datapath, their exact values and the output (document 01, 'The datapath file' and 'Output, grid and order').
-- A vector is a list of integers, first input first.
--   step_value x vs s   the exact value of step s at the vector x, where vs are the exact values of the steps before it
--   values ts x k      the exact values of the first k of the steps ts at the vector x
--   exact ts x         the exact value of the last step
--   output m ts x      the output: the exact value of the last step modulo 2^m, in 0 to 2^m − 1
use Rattle.std.specs.Prelude.{List, [], ◌∷◌, ◌++◌, ℕ, zero, suc, ◌-◌, ◌^◌, ℤ, pos, ◌+ℤ◌, ◌-ℤ◌, ◌*ℤ◌, get_or, length}
use Rattle.integers.specs.Modulo.{remainder}
use Rattle.datapath.specs.declared.Step.{Step}
use Rattle.datapath.specs.declared.Step.TheVariants.{Input, Constant, Add, Subtract, Multiply}

unfoldable pub step_value : List ℤ → List ℤ → Step → ℤ
step_value x vs (Input i) = get_or x i (pos 0)
step_value x vs (Constant c) = pos c
step_value x vs (Add l r) = get_or vs l (pos 0) +ℤ get_or vs r (pos 0)
step_value x vs (Subtract l r) = get_or vs l (pos 0) -ℤ get_or vs r (pos 0)
step_value x vs (Multiply l r) = get_or vs l (pos 0) *ℤ get_or vs r (pos 0)

unfoldable pub values : List Step → List ℤ → ℕ → List ℤ
values ts x zero = []
values ts x (suc k) =
    let before = values ts x k in
    before ++ (step_value x before (get_or ts k (Constant 0)) ∷ [])

unfoldable pub exact : List Step → List ℤ → ℤ
exact ts x = get_or (values ts x (length ts)) (length ts - 1) (pos 0)

unfoldable pub output : ℕ → List Step → List ℤ → ℕ
output m ts x = remainder (exact ts x) (2 ^ m)
