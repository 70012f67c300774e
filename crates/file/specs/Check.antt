-- The conditions that a file meets, each under document 01's number ('Refused because of the input'), and what checking a file answers.
--   max_steps          the largest N
--   too_short          1. the file is shorter than a short head
--   short_of_head       1 too, once d is known to be 1 to max_inputs. the file is shorter than its own head
--   bad_output, bad_inputs, bad_widths of its sizes   2, 3, 5
--   bad_count          4. N is not 1 to max_steps
--   bad_length         6. the length is not that of the head and 9N
--   bad_operation      7. the operation byte of step k is not 1 to 5
--   bad_argument       8. the argument of step k breaks its rule
--   fault n            the number n of a condition that holds, as an option: none at 0
--   step_fault s k     7 or 8, the first that holds at step k, or 0
--   faulty_at s k      7 or 8 holds at step k
--   faulty_step s      the first step at which 7 or 8 holds, or N
--   file_number s      the first of 1 to 8 that holds, in document 01's order, or 0
--   refusal_of w s     what checking s as file w answers: the number, the file and the step
--   stretch_of s       the operation bytes that are handed out: of a refused file, none
use Rattle.std.specs.Prelude.{Bool, not, cond, ◌&&◌, List, [], Option, Some, None, ℕ, ◌+◌, ◌*◌, ◌/◌, ◌^◌, leb, ltb, eqb, length}
use Rattle.ranges.specs.Search.{first}
use Rattle.sizes.specs.declared.Refusal.{Refusal}
use Rattle.sizes.specs.declared.Sizes.{Sizes}
use Rattle.sizes.specs.Sizes.{within, bad_output, bad_inputs, bad_widths}
use Rattle.fields.specs.File.{short_head, sizes_of, head_of, step_count, operation, argument, left_operand, right_operand, operations_of}

abbrev pub max_steps : ℕ
max_steps = 1024

unfoldable pub too_short : List ℕ → Bool
too_short s = ltb (length s) short_head

unfoldable pub short_of_head : List ℕ → Bool
short_of_head s = ltb (length s) (head_of s)

unfoldable pub bad_count : List ℕ → Bool
bad_count s = not (within 1 max_steps (step_count s))

unfoldable pub bad_length : List ℕ → Bool
bad_length s = not (eqb (length s) (head_of s + 9 * step_count s))

unfoldable pub bad_operation : List ℕ → ℕ → Bool
bad_operation s k = not (within 1 5 (operation s k))

-- the upper 32 bits of an argument
abbrev pub upper_half : ℕ → ℕ
upper_half a = a / 2 ^ 32

-- both operands are steps before step k, and the upper half is 0
unfoldable pub operands_rule : ℕ → ℕ → Bool
operands_rule k a = ltb (left_operand a) k && ltb (right_operand a) k && eqb (upper_half a) 0

-- The rule of the argument a of step k, by its operation o. An input: its index, below d. A constant: a number below 2^m
unfoldable pub argument_rule : Sizes → ℕ → ℕ → ℕ → Bool
argument_rule z k o a =
    cond (eqb o 1) (ltb a z.d)
    (cond (eqb o 2) (ltb a (2 ^ z.m))
    (operands_rule k a))

unfoldable pub bad_argument : List ℕ → ℕ → Bool
bad_argument s k = not (argument_rule (sizes_of s) k (operation s k) (argument s k))

abbrev pub fault : ℕ → Option ℕ
fault n = cond (eqb n 0) None (Some n)

unfoldable pub step_fault : List ℕ → ℕ → ℕ
step_fault s k = cond (bad_operation s k) 7 (cond (bad_argument s k) 8 0)

unfoldable pub faulty_at : List ℕ → ℕ → Bool
faulty_at s k = not (eqb (step_fault s k) 0)

unfoldable pub faulty_step : List ℕ → ℕ
faulty_step s = first (faulty_at s) 0 (step_count s)

-- conditions 1 to 6
unfoldable pub head_fault : List ℕ → ℕ
head_fault s =
    cond (too_short s) 1
    (cond (bad_output (sizes_of s)) 2
    (cond (bad_inputs (sizes_of s)) 3
    (cond (short_of_head s) 1
    (cond (bad_count s) 4
    (cond (bad_widths (sizes_of s)) 5
    (cond (bad_length s) 6 0))))))

unfoldable pub file_number : List ℕ → ℕ
file_number s =
    cond (eqb (head_fault s) 0)
    (cond (ltb (faulty_step s) (step_count s)) (step_fault s (faulty_step s)) 0)
    (head_fault s)

-- the step is shown in 7 and 8
unfoldable pub shown_step : List ℕ → ℕ
shown_step s = cond (leb 7 (file_number s)) (faulty_step s) 0

unfoldable pub refusal_of : ℕ → List ℕ → Refusal
refusal_of w s =
    cond (eqb (file_number s) 0) (record { number = 0; file = 0; step = 0 })
    (record { number = file_number s; file = w; step = shown_step s })

unfoldable pub stretch_of : List ℕ → List ℕ
stretch_of s = cond (eqb (file_number s) 0) (operations_of s) []
