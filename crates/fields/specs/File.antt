-- The fields of a datapath file, a list of bytes (document 01, 'The datapath file').
--   short_inputs      the most inputs of a file with a short head, which has a width byte for each of these
--   width_bytes d     the width bytes of a file with d inputs: short_inputs, or max_inputs where there are more inputs than that
--   short_head, long_head
--                    the bytes of a short head, the least that a file has, and of a long one, which has max_inputs width bytes
--   head_length d     the bytes of the head of a file with d inputs, before the operation bytes
--   HeadLengths      they are 12, or 14 where there are more than eight inputs. Proved in proofs/Heads
--   sizes_of s        m, d and the width bytes
--   head_of s         the bytes of the file's own head
--   step_count s      N
--   operation s k    the operation byte of step k
--   argument s k     the argument of step k, a number of 64 bits
--   left_operand a, right_operand a
--                    of an argument: the left step in the low 16 bits, and the right step in the next 16
--   operations_of s   the operation bytes
--   HasStep s n k    s has n steps, and its length is that of its head and 9N; step k is one of these
--   Parted s head operations arguments
--                    s is these three in this order: as many bytes as its head has, a byte for each step, and the rest
--   FieldsInOrder    each field is read from the part that document 01 has it in. Proved in proofs/Parts:
--     output, inputs, count
--                 m is byte 0, d is byte 1, and N is bytes 2 and 3, the first weighing least
--     widths      the width bytes are bytes 4 and on of the head, one by one
--     unused      and 0 where the head has no more
--     operations  the operation bytes are the second part
--     operation   that of step k is its byte k
--     argument    the argument of step k is in the third part, 8 bytes from its byte 8k on
use Rattle.std.specs.Prelude.{cond, List, ◌++◌, ◌≡◌, ℕ, ◌+◌, ◌*◌, ◌/◌, ◌%◌, ◌^◌, ◌≤◌, ◌<◌, leb, length, get_or, take, drop}
use Rattle.sizes.specs.declared.Sizes.{Sizes}
use Rattle.sizes.specs.Padded.{padded}
use Rattle.sizes.specs.Sizes.{max_inputs}
use Rattle.words.specs.Bytes.{little}

abbrev pub short_inputs : ℕ
short_inputs = 8

unfoldable pub width_bytes : ℕ → ℕ
width_bytes d = cond (leb d short_inputs) short_inputs max_inputs

-- where the width bytes begin
abbrev pub widths_from : ℕ
widths_from = 4

abbrev pub short_head : ℕ
short_head = widths_from + short_inputs

abbrev pub long_head : ℕ
long_head = widths_from + max_inputs

abbrev pub head_length : ℕ → ℕ
head_length d = widths_from + width_bytes d

pub record HeadLengths : Type 0 where
  pub short : (d : ℕ) → d ≤ 8 → head_length d ≡ 12
  pub long : (d : ℕ) → 8 < d → head_length d ≡ 14

unfoldable pub sizes_of : List ℕ → Sizes
sizes_of s = record { m = get_or s 0 0; d = get_or s 1 0; widths = padded (take (width_bytes (get_or s 1 0)) (drop widths_from s)) }

abbrev pub head_of : List ℕ → ℕ
head_of s = head_length (sizes_of s).d

unfoldable pub step_count : List ℕ → ℕ
step_count s = little 2 s 2

unfoldable pub operation : List ℕ → ℕ → ℕ
operation s k = get_or s (head_of s + k) 0

unfoldable pub argument : List ℕ → ℕ → ℕ
argument s k = little 8 s (head_of s + step_count s + 8 * k)

abbrev pub left_operand : ℕ → ℕ
left_operand a = a % 2 ^ 16

abbrev pub right_operand : ℕ → ℕ
right_operand a = a / 2 ^ 16 % 2 ^ 16

unfoldable pub operations_of : List ℕ → List ℕ
operations_of s = take (step_count s) (drop (head_of s) s)

pub record HasStep (s : List ℕ) (n k : ℕ) : Type 0 where
  pub count : n ≡ step_count s
  pub size : length s ≡ head_of s + 9 * n
  pub inside : k < n

pub record Parted (s head operations arguments : List ℕ) : Type 0 where
  pub whole : s ≡ head ++ (operations ++ arguments)
  pub headed : length head ≡ head_of s
  pub counted : length operations ≡ step_count s

pub record FieldsInOrder : Type 0 where
  pub output : (s : List ℕ) → (sizes_of s).m ≡ get_or s 0 0
  pub inputs : (s : List ℕ) → (sizes_of s).d ≡ get_or s 1 0
  pub count : (s : List ℕ) → step_count s ≡ get_or s 2 0 + 256 * get_or s 3 0
  pub widths : (s : List ℕ) (i : ℕ) → 4 + i < head_of s → get_or (sizes_of s).widths i 0 ≡ get_or s (4 + i) 0
  pub unused : (s : List ℕ) (i : ℕ) → head_of s ≤ 4 + i → get_or (sizes_of s).widths i 0 ≡ 0
  pub operations : (s head ops args : List ℕ) → Parted s head ops args → operations_of s ≡ ops
  pub operation :
      (s head ops args : List ℕ) → Parted s head ops args → (k : ℕ) → k < step_count s → operation s k ≡ get_or ops k 0
  pub argument :
      (s head ops args : List ℕ) → Parted s head ops args → (k : ℕ) → argument s k ≡ little 8 args (8 * k)
