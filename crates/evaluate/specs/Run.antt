-- What running the steps of an accepted file asks, keeps and promises.
-- Steps are run at words, and modulo 2^64. An output hangs on no more of a vector than its values modulo 2^m, so words stand for every vector
-- that has them.
--   word_output s ws                   the output of the file s at the words ws, read as natural numbers
--   SameOutput                        it is the output at every vector with these words. Proved in proofs/Words
--   step_word s ws k                   the value of step k of the file s at the words ws, modulo 2^64
--   ran s n ws scratch                the scratch slice with the values modulo 2^64 of the first n steps in its front
--   Ready s n ws scratch              the file s is accepted and has n steps, there is a word for each input, and the scratch slice has room
--   Running s n ws scratch k          and its first k entries hold the values modulo 2^64 of the first k steps
--   OutputAt s n ws before r after    what finding an output promises:
--       output    r is the output of the file at the words
--       kept      past the first n entries the scratch slice is as before
--   Evaluates s ws before r after     what evaluating promises, for refused input too:
--       answer    the refusal, or the output at the vector that the words give
--       scratch   the scratch slice afterwards
use Rattle.std.specs.Prelude.{◌≡◌, ℕ, ◌≤◌, List, ◌++◌, map, length, take, drop, ℤ, Result}
use Rattle.fields.specs.File.{sizes_of, step_count}
use Rattle.fields.specs.Steps.{step_at, steps_of}
use Rattle.file.specs.Accepted.{Accepted}
use Rattle.slices.specs.Slices.{KeptPast}
use Rattle.datapath.specs.Steps.{step_value, values}
use Rattle.words.specs.Words.{word, plain}
use Rattle.sizes.specs.Answered.{answered}
use Rattle.sizes.specs.declared.Refusal.{Refusal}
use Rattle.evaluate.specs.Evaluate.{output_of, vector_of, refusal_at, evaluated_scratch}

abbrev pub word_output : List ℕ → List ℕ → ℕ
word_output s ws = output_of s (plain ws)

abbrev pub SameOutput : Type 0
SameOutput = (s : List ℕ) → Accepted s → (x : List ℤ) → word_output s (map word x) ≡ output_of s x

abbrev pub step_word : List ℕ → List ℕ → ℕ → ℕ
step_word s ws k = word (step_value (plain ws) (values (steps_of s) (plain ws) k) (step_at s k))

abbrev pub ran : List ℕ → ℕ → List ℕ → List ℕ → List ℕ
ran s n ws scratch = map word (values (steps_of s) (plain ws) n) ++ drop n scratch

pub record Ready (s : List ℕ) (n : ℕ) (ws scratch : List ℕ) : Type 0 where
  pub sound : Accepted s
  pub count : n ≡ step_count s
  pub inputs : (sizes_of s).d ≤ length ws
  pub room : n ≤ length scratch

pub record Running (s : List ℕ) (n : ℕ) (ws scratch : List ℕ) (k : ℕ) : Type 0 where
  pub ready : Ready s n ws scratch
  pub passed : k ≤ n
  pub words : take k scratch ≡ map word (values (steps_of s) (plain ws) k)

pub record OutputAt (s : List ℕ) (n : ℕ) (ws before : List ℕ) (r : ℕ) (after : List ℕ) : Type 0 where
  pub output : r ≡ word_output s ws
  pub kept : KeptPast n before after

pub record Evaluates (s ws before : List ℕ) (r : Result ℕ Refusal) (after : List ℕ) : Type 0 where
  pub answer : r ≡ answered (refusal_at s ws (length before)) (output_of s (vector_of (sizes_of s) ws))
  pub scratch : after ≡ evaluated_scratch s ws before
