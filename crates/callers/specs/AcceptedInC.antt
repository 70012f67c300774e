-- What a call that returned 1 answers, for a caller in C, of any words that a C function's contract holds of. A place that hangs on the most inputs
-- has a name, whose number is in `layouts` specs/Statement; the others are the header's numbers. It is proved in proofs/, as accepted_in_c. The
-- parameters are those of the contracts: what was given and lent, and the slices at exit (with a '). Word 0 of an answer is the number word; the
-- call is accepted where it is 0. What an accepted continue call says is in specs/Demand3InC, and the refusal words are in specs/SaidInC.
--   Checked f o'         of corkbingo_check:
--     number       the number word is the file's number: that of the first condition of 1 to 8 that it meets, or 0
--     sound        it is 0 exactly where the file keeps all rules of a file
--   Stretched f o'       of corkbingo_operations:
--     start, count where the file is accepted, the words are the length of its head, 12 or 14 (`fields` specs/File), and N
--     none         of a refused file they are 0 and 0
--   Bounded m o'         of corkbingo_bound:
--     range        the number word is 0 exactly where m is from 1 to 64
--     least        where it is 0, word 3 is the least number whose factorial is divisible by 2^m
--     quotients    words 4 to 9 are word 3 divided by 2, 4, 8, 16, 32 and 64, each rounded down
--     exponent     they add up to the exponent of two in the factorial of word 3
--     enough       which is m or more
--     before       the quotients of one less than word 3 add up to the exponent of two in its factorial
--     short        which is less than m
--     outside      where m is not from 1 to 64 the number word is 2, and the others are 0
--   Gridded f o'         of corkbingo_grid:
--     number       the number word is the file's number
--     axes         where it is 0, the first d words of the axes are these
--     smaller      each of these is the smaller of 2^n, for its input's word length n, and the least number whose factorial is divisible by 2^m
--     others       their other words are 0
--     size         and the last word is G
--     none         in a refusal all words from word 3 on are 0
--   Evaluated f x s s' o'     of corkbingo_evaluate, where the number word is 0:
--     count        there is a word for each of its inputs
--     vector       the words x give a full-width vector of these
--     output       word 3 is the output of the file at this vector
--     scratch      the first N scratch entries are 0, and the others as at entry
--   Tabled f s t s' t'   of corkbingo_table, where the number word is 0:
--     table        the first G entries of the table slice are the file's difference table, and the others as at entry
--     scratch      the first N scratch entries are 0, and the others as at entry
--   Continued f₁ f₂ s s' of corkbingo_continue, where the number word is 0:
--     scratch      the first scratch entries, as many as the larger N of the two files, are 0, and the others as at entry
--   CellsWritten z w y y' q'  a call is accepted with the answer q'; the first G entries of the slice y are then the list w, and the others as at entry
-- Demand 2, of two calls of which the second reads what an accepted first one wrote, and lends a slice with room for G entries:
--   SumOfTableInC        corkbingo_sum of what corkbingo_table wrote, with the file's sizes as words, writes the file's outputs at the grid's vectors
--   DifferenceOfSumInC   corkbingo_difference of what corkbingo_sum wrote writes the first G entries that were summed
--   SumOfDifferenceInC   corkbingo_sum of what corkbingo_difference wrote writes the first G entries that were differenced
use Rattle.std.specs.Prelude.{List, [], ◌∷◌, ◌++◌, ◌↔◌, ◌≡◌, ℕ, ◌+◌, ◌-◌, ◌^◌, ◌≤◌, ◌<◌, min, length, take, drop, replicate}
use Rattle.bound.specs.Bound.{IsBound}
use Rattle.bound.specs.Quotients.{halvings}
use Rattle.engine.specs.Engine.{larger_count}
use Rattle.evaluate.specs.Evaluate.{output_of, vector_of}
use Rattle.file.specs.Accepted.{Accepted}
use Rattle.file.specs.Check.{file_number}
use Rattle.fields.specs.File.{sizes_of, head_of, step_count}
use Rattle.file_calls.specs.FileCalls.{CheckCall, OperationsCall, EvaluateCall}
use Rattle.grid.specs.Grid.{axes_of, grid_size}
use Rattle.grid_calls.specs.GridCalls.{BoundCall, GridCall}
use Rattle.integers.specs.Exponent.{IsExponent}
use Rattle.integers.specs.Modulo.{factorial}
use Rattle.layouts.specs.Lengths.{word_at, at_axes, at_grid_size}
use Rattle.layouts.specs.SizeWords.{size_words, sizes_from}
use Rattle.lists.specs.Lists.{sum_of}
use Rattle.session_calls.specs.SessionCalls.{ContinueCall}
use Rattle.sizes.specs.Sizes.{max_inputs, format_at, formats_of}
use Rattle.sizes.specs.declared.Sizes.{Sizes}
use Rattle.table_calls.specs.TableCalls.{TableCall, DifferenceCall, SumCall}
use Rattle.file_tables.specs.FileTables.{table_of_file, grid_outputs}
use Rattle.formats.specs.Formats.{FullWidth}

pub record Checked (f o' : List ℕ) : Type 0 where
  pub number : word_at o' 0 ≡ file_number f
  pub sound : (word_at o' 0 ≡ 0) ↔ Accepted f

pub record Stretched (f o' : List ℕ) : Type 0 where
  pub start : file_number f ≡ 0 → word_at o' 0 ≡ head_of f
  pub count : file_number f ≡ 0 → word_at o' 1 ≡ step_count f
  pub none : ¬ (file_number f ≡ 0) → o' ≡ 0 ∷ 0 ∷ []

-- m is an output word length
pub record From1To64 (m : ℕ) : Type 0 where
  pub low : 1 ≤ m
  pub high : m ≤ 64

pub record Bounded (m : ℕ) (o' : List ℕ) : Type 0 where
  pub range : (word_at o' 0 ≡ 0) ↔ From1To64 m
  pub least : word_at o' 0 ≡ 0 → IsBound m (word_at o' 3)
  pub quotients : word_at o' 0 ≡ 0 → drop 4 o' ≡ halvings (word_at o' 3)
  pub exponent : word_at o' 0 ≡ 0 → IsExponent (factorial (word_at o' 3)) (sum_of (drop 4 o'))
  pub enough : word_at o' 0 ≡ 0 → m ≤ sum_of (drop 4 o')
  pub before : word_at o' 0 ≡ 0 → IsExponent (factorial (word_at o' 3 - 1)) (sum_of (halvings (word_at o' 3 - 1)))
  pub short : word_at o' 0 ≡ 0 → sum_of (halvings (word_at o' 3 - 1)) < m
  pub outside : ¬ From1To64 m → o' ≡ 2 ∷ replicate 9 0

pub record Gridded (f o' : List ℕ) : Type 0 where
  pub number : word_at o' 0 ≡ file_number f
  pub axes : word_at o' 0 ≡ 0 → take (sizes_of f).d (drop at_axes o') ≡ axes_of (sizes_of f)
  pub smaller :
      word_at o' 0 ≡ 0 → (i : ℕ) → i < (sizes_of f).d → (l : ℕ) → IsBound (sizes_of f).m l →
      word_at o' (at_axes + i) ≡ min (2 ^ (format_at (sizes_of f) i).length) l
  pub others : word_at o' 0 ≡ 0 → (i : ℕ) → (sizes_of f).d ≤ i → i < max_inputs → word_at o' (at_axes + i) ≡ 0
  pub size : word_at o' 0 ≡ 0 → word_at o' at_grid_size ≡ grid_size (sizes_of f)
  pub none : ¬ (word_at o' 0 ≡ 0) → drop at_axes o' ≡ replicate (max_inputs + 1) 0

pub record Evaluated (f x s s' o' : List ℕ) : Type 0 where
  pub count : length x ≡ (sizes_of f).d
  pub vector : FullWidth (formats_of (sizes_of f)) (vector_of (sizes_of f) x)
  pub output : word_at o' 3 ≡ output_of f (vector_of (sizes_of f) x)
  pub scratch : s' ≡ replicate (step_count f) 0 ++ drop (step_count f) s

pub record Tabled (f s t s' t' : List ℕ) : Type 0 where
  pub table : t' ≡ table_of_file f ++ drop (grid_size (sizes_of f)) t
  pub scratch : s' ≡ replicate (step_count f) 0 ++ drop (step_count f) s

pub record Continued (f₁ f₂ s s' : List ℕ) : Type 0 where
  pub scratch : s' ≡ replicate (larger_count f₁ f₂) 0 ++ drop (larger_count f₁ f₂) s

pub record CellsWritten (z : Sizes) (w y y' q' : List ℕ) : Type 0 where
  pub number : word_at q' 0 ≡ 0
  pub entries : y' ≡ w ++ drop (grid_size z) y

abbrev pub SumOfTableInC : Type 0
SumOfTableInC =
    (f s t o s' t' o' : List ℕ) →
    TableCall f s t o 1 s' t' o' →
    word_at o' 0 ≡ 0 →
    (y q y' q' : List ℕ) →
    SumCall (size_words (sizes_of f)) t' y q 1 y' q' →
    grid_size (sizes_of f) ≤ length y →
    CellsWritten (sizes_of f) (grid_outputs f) y y' q'

abbrev pub DifferenceOfSumInC : Type 0
DifferenceOfSumInC =
    (z t y o y' o' : List ℕ) →
    SumCall z t y o 1 y' o' →
    word_at o' 0 ≡ 0 →
    (u q u' q' : List ℕ) →
    DifferenceCall z y' u q 1 u' q' →
    grid_size (sizes_from z) ≤ length u →
    CellsWritten (sizes_from z) (take (grid_size (sizes_from z)) t) u u' q'

abbrev pub SumOfDifferenceInC : Type 0
SumOfDifferenceInC =
    (z y t o t' o' : List ℕ) →
    DifferenceCall z y t o 1 t' o' →
    word_at o' 0 ≡ 0 →
    (u q u' q' : List ℕ) →
    SumCall z t' u q 1 u' q' →
    grid_size (sizes_from z) ≤ length u →
    CellsWritten (sizes_from z) (take (grid_size (sizes_from z)) y) u u' q'

pub record AcceptedInC : Type 0 where
  pub checking : (f o o' : List ℕ) → CheckCall f o 1 o' → Checked f o'
  pub operations : (f o o' : List ℕ) → OperationsCall f o 1 o' → Stretched f o'
  pub bound : (m : ℕ) (o o' : List ℕ) → BoundCall m o 1 o' → Bounded m o'
  pub grid : (f o o' : List ℕ) → GridCall f o 1 o' → Gridded f o'
  pub evaluating :
      (f x s o s' o' : List ℕ) → EvaluateCall f x s o 1 s' o' → word_at o' 0 ≡ 0 → Evaluated f x s s' o'
  pub making : (f s t o s' t' o' : List ℕ) → TableCall f s t o 1 s' t' o' → word_at o' 0 ≡ 0 → Tabled f s t s' t'
  pub continuing :
      (f₁ f₂ : List ℕ) (B : ℕ) (w s a w' s' a' : List ℕ) →
      ContinueCall f₁ f₂ B w s a 1 w' s' a' → word_at a' 0 ≡ 0 → Continued f₁ f₂ s s'
  pub sum_of_table : SumOfTableInC
  pub difference_of_sum : DifferenceOfSumInC
  pub sum_of_difference : SumOfDifferenceInC
