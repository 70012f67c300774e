-- What holds of an accepted file, as orders and equations of numbers: document 01's rules, with no test in them.
--   OperationRuled s k   7 with no test in it: the operation byte of step k is 1 to 5
--   ArgumentRuled s k    8 with no test in it: the argument of step k, by its operation. An input is one of the d, a constant fits m bits,
--                    both operands are earlier steps, and the upper half is 0
--   Accepted s       the rules of the head, the length, the width bytes and each step of s
--   AcceptedExactly  a file has the number 0 exactly where it keeps them. Proved in proofs/Sound
--   Counted s n      the file s is accepted and has n steps
--   StepRule z k t   the rule of step k, t, of a file with sizes z: an input is one of the d, a constant fits m bits, operands are earlier steps
use Rattle.std.specs.Prelude.{List, ◌↔◌, ◌≡◌, ℕ, ◌+◌, ◌*◌, ◌^◌, ◌≤◌, ◌<◌, length, get_or}
use Rattle.sizes.specs.Sizes.{max_inputs, format_at}
use Rattle.sizes.specs.declared.Sizes.{Sizes}
use Rattle.datapath.specs.declared.Step.{Step}
use Rattle.datapath.specs.declared.Step.TheVariants.{Input, Constant, Add, Subtract, Multiply}
use Rattle.file.specs.Check.{max_steps, file_number}
use Rattle.fields.specs.File.{sizes_of, head_of, step_count, operation, argument, left_operand, right_operand}

abbrev pub OperationRuled : List ℕ → ℕ → Type 0
OperationRuled s k = (1 ≤ operation s k) × (operation s k ≤ 5)

pub record ArgumentRuled (s : List ℕ) (k : ℕ) : Type 0 where
  pub input : operation s k ≡ 1 → argument s k < (sizes_of s).d
  pub constant : operation s k ≡ 2 → argument s k < 2 ^ (sizes_of s).m
  pub left : 3 ≤ operation s k → left_operand (argument s k) < k
  pub right : 3 ≤ operation s k → right_operand (argument s k) < k
  pub upper : 3 ≤ operation s k → argument s k < 2 ^ 32

pub record Accepted (s : List ℕ) : Type 0 where
  pub long : head_of s ≤ length s
  pub size : length s ≡ head_of s + 9 * step_count s
  pub output_low : 1 ≤ (sizes_of s).m
  pub output_high : (sizes_of s).m ≤ 64
  pub inputs_low : 1 ≤ (sizes_of s).d
  pub inputs_high : (sizes_of s).d ≤ max_inputs
  pub count_low : 1 ≤ step_count s
  pub count_high : step_count s ≤ max_steps
  pub width_low : (i : ℕ) → i < (sizes_of s).d → 1 ≤ (format_at (sizes_of s) i).length
  pub width_high : (i : ℕ) → i < (sizes_of s).d → (format_at (sizes_of s) i).length ≤ 64
  pub width_unused : (i : ℕ) → (sizes_of s).d ≤ i → i < max_inputs → get_or (sizes_of s).widths i 0 ≡ 0
  pub operations : (k : ℕ) → k < step_count s → OperationRuled s k
  pub arguments : (k : ℕ) → k < step_count s → ArgumentRuled s k

abbrev pub AcceptedExactly : Type 0
AcceptedExactly = (s : List ℕ) → (file_number s ≡ 0) ↔ Accepted s

pub record Counted (s : List ℕ) (n : ℕ) : Type 0 where
  pub sound : Accepted s
  pub count : n ≡ step_count s

abbrev pub StepRule : Sizes → ℕ → Step → Type 0
StepRule z k (Input i) = i < z.d
StepRule z k (Constant c) = c < 2 ^ z.m
StepRule z k (Add l r) = (l < k) × (r < k)
StepRule z k (Subtract l r) = (l < k) × (r < k)
StepRule z k (Multiply l r) = (l < k) × (r < k)
