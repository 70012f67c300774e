-- The layouts of words, as C callers get and give them: how many words each has, and where each word stands.
--   sizes      m, d, the width bytes
--   session    the sizes, position, mark
--   refusal    number (0: accepted), file, step
--   grid       the refusal, u1 to the last axis, G
--   answer     the refusal, kind, vectors run, the words of the vector, output of file 1, output of file 2
-- There are max_inputs width bytes, and as many axes and words of a vector. `word_at w i` is the word at offset i, and 0 past the end.
use Rattle.std.specs.Prelude.{List, ℕ, ◌+◌, get_or}
use Rattle.sizes.specs.Sizes.{max_inputs}

abbrev pub word_at : List ℕ → ℕ → ℕ
word_at w i = get_or w i 0

abbrev pub at_m : ℕ
at_m = 0

abbrev pub at_d : ℕ
at_d = 1

abbrev pub at_widths : ℕ
at_widths = 2

abbrev pub sizes_length : ℕ
sizes_length = max_inputs + 2

abbrev pub at_position : ℕ
at_position = max_inputs + 2

abbrev pub at_mark : ℕ
at_mark = max_inputs + 3

abbrev pub session_length : ℕ
session_length = max_inputs + 4

abbrev pub at_number : ℕ
at_number = 0

abbrev pub at_file : ℕ
at_file = 1

abbrev pub at_step : ℕ
at_step = 2

abbrev pub refusal_length : ℕ
refusal_length = 3

abbrev pub at_axes : ℕ
at_axes = 3

abbrev pub at_grid_size : ℕ
at_grid_size = max_inputs + 3

abbrev pub grid_length : ℕ
grid_length = max_inputs + 4

abbrev pub at_kind : ℕ
at_kind = 3

abbrev pub at_run : ℕ
at_run = 4

abbrev pub at_vector : ℕ
at_vector = 5

abbrev pub at_output₁ : ℕ
at_output₁ = max_inputs + 5

abbrev pub at_output₂ : ℕ
at_output₂ = max_inputs + 6

abbrev pub answer_length : ℕ
answer_length = max_inputs + 7
