-- Files longer than any that is accepted.
--   longest_file   the bytes of the longest file that is accepted
--   LongFile      of a longer file the first longest_file + 1 bytes decide: what comes after them changes neither its number nor its refusal, and it
--                 is refused. Proved in proofs/Long. So a reader may stop there
use Rattle.std.specs.Prelude.{◌≡◌, List, ◌++◌, ℕ, ◌+◌, ◌*◌, ◌<◌, length}
use Rattle.file.specs.Check.{max_steps, file_number, refusal_of}
use Rattle.fields.specs.File.{long_head}

abbrev pub longest_file : ℕ
longest_file = long_head + 9 * max_steps

-- a file that starts so is judged by its start, and refused
pub record CutShort (start rest : List ℕ) : Type 0 where
  pub number : file_number (start ++ rest) ≡ file_number start
  pub refusal : (w : ℕ) → refusal_of w (start ++ rest) ≡ refusal_of w start
  pub refused : ¬ (file_number start ≡ 0)

abbrev pub LongFile : Type 0
LongFile = (start rest : List ℕ) → longest_file < length start → CutShort start rest
