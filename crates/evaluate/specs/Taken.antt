-- Which calls evaluating takes, as orders and equations of numbers, with no test in them.
--   FullVector z ws         there is one word for each input, and each gives a value of its input
--   EvaluateTaken s ws len  the file s is accepted, the scratch slice has an entry for each of its steps, and ws are such words of its inputs
--   FullVectorWidth         so the words give a full-width vector, exactly where there is one for each input. Proved in proofs/Taken
--   EvaluateExactly         evaluating answers the number 0 exactly there. Proved in proofs/Taken
use Rattle.std.specs.Prelude.{◌≡◌, ℕ, ◌<◌, ◌≤◌, ◌↔◌, List, length, slice_index}
use Rattle.fields.specs.File.{sizes_of, step_count}
use Rattle.file.specs.Accepted.{Accepted}
use Rattle.formats.specs.Formats.{InFormat, FullWidth}
use Rattle.input_words.specs.InputWords.{value_of}
use Rattle.sizes.specs.Sizes.{format_at, formats_of}
use Rattle.sizes.specs.declared.Sizes.{Sizes}
use Rattle.evaluate.specs.Evaluate.{vector_of, refusal_at}

pub record FullVector (z : Sizes) (ws : List ℕ) : Type 0 where
  pub count : length ws ≡ z.d
  pub inside : (i : ℕ) → i < z.d → InFormat (format_at z i) (value_of (format_at z i) (slice_index ws i))

abbrev pub FullVectorWidth : Type 0
FullVectorWidth =
    (z : Sizes) (ws : List ℕ) → z.d ≤ length z.widths → length ws ≡ z.d →
    FullVector z ws ↔ FullWidth (formats_of z) (vector_of z ws)

pub record EvaluateTaken (s ws : List ℕ) (len : ℕ) : Type 0 where
  pub file : Accepted s
  pub room : step_count s ≤ len
  pub vector : FullVector (sizes_of s) ws

abbrev pub EvaluateExactly : Type 0
EvaluateExactly = (s ws : List ℕ) (len : ℕ) → ((refusal_at s ws len).number ≡ 0) ↔ EvaluateTaken s ws len
