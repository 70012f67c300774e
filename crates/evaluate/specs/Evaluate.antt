-- Evaluating a file at a vector (document 01, 'Output, grid and order' and 'Refused because of the input').
--   output_of s x          the output of the file s at the vector x
--   vector_of z ws         the vector that the words ws give to the inputs of the sizes z
--   short_scratch n len    12. the scratch slice has fewer entries than n, the count of steps
--   bad_vector z ws        14. there are not exactly d words, or some word gives no value of its input
--   refusal_at s ws len    what evaluating at the words ws answers first: the file's refusal, 12, 14, or acceptance
--   Evaluated              what is told of a call: its refusal and an output, which is 0 in a refusal
--   evaluated_at s ws len  what is told of the call: the refusal and the output at the vector that the words give, which is 0 in a refusal
--   evaluated_scratch      the scratch slice afterwards: the first N entries zero where the call is accepted, all untouched where it is refused
use Rattle.std.specs.Prelude.{ℕ, Bool, cond, not, ◌&&◌, List, length, ℤ, ◌==◌, nat_lt, slice_index}
use Rattle.file.specs.Check.{file_number, refusal_of}
use Rattle.fields.specs.File.{sizes_of, step_count}
use Rattle.fields.specs.Steps.{steps_of}
use Rattle.input_words.specs.InputWords.{values_of, in_format}
use Rattle.ranges.specs.Search.{every}
use Rattle.sizes.specs.Sizes.{format_at, formats_of, refused_by, accepted, accepts}
use Rattle.sizes.specs.declared.Refusal.{Refusal}
use Rattle.sizes.specs.declared.Sizes.{Sizes}
use Rattle.slices.specs.Slices.{cleared}
use Rattle.datapath.specs.Steps.{output}

unfoldable pub output_of : List ℕ → List ℤ → ℕ
output_of s x = output (sizes_of s).m (steps_of s) x

abbrev pub vector_of : Sizes → List ℕ → List ℤ
vector_of z ws = values_of (formats_of z) ws

abbrev pub short_scratch : ℕ → ℕ → Bool
short_scratch n len = nat_lt len n

-- word i gives a value of input i
unfoldable pub in_range : Sizes → List ℕ → ℕ → Bool
in_range z ws i = in_format (format_at z i) (slice_index ws i)

unfoldable pub bad_vector : Sizes → List ℕ → Bool
bad_vector z ws = not (length ws == z.d && every (in_range z ws) 0 z.d)

unfoldable pub refusal_at : List ℕ → List ℕ → ℕ → Refusal
refusal_at s ws len =
    cond (file_number s == 0)
    (cond (short_scratch (step_count s) len) (refused_by 12)
    (cond (bad_vector (sizes_of s) ws) (refused_by 14) accepted))
    (refusal_of 1 s)

pub record Evaluated : Type 0 where
  pub refusal : Refusal
  pub output : ℕ

unfoldable pub evaluated_at : List ℕ → List ℕ → ℕ → Evaluated
evaluated_at s ws len =
    record { refusal = refusal_at s ws len; output = cond (accepts (refusal_at s ws len)) (output_of s (vector_of (sizes_of s) ws)) 0 }

unfoldable pub evaluated_scratch : List ℕ → List ℕ → List ℕ → List ℕ
evaluated_scratch s ws scratch =
    cond (accepts (refusal_at s ws (length scratch))) (cleared (step_count s) scratch) scratch
