-- The steps of a file run at w vectors at once: each of the w lanes of the rows has a vector of its own, row i the values of step i.
--   few_lanes                                    the lanes of a narrow row
--   Width w                                     the rows have max_lanes or few_lanes lanes
--   Reads w s inputs l x                        lane l of the input rows has the words x: row i has input i
--   StandsFor m x u                             the word x stands for the integer u modulo 2^m
--   Held w s x rows l i                         lane l of row i is the value of step i at x, modulo 2^m
--   HeldTo w s x rows l k                       so are the first k rows
--   Shown w s x rows l k                        lane l of row k is the output at x, modulo 2^m
--   Room w s n inputs rows                      the rows have such a width, the file s is accepted and has n steps, and the slices have a row for each
--                                               input and each step
--   VectorOnGrid s x                            the words x are a vector of the grid of the file s: each of the first d is the word of one of the values that
--                                               the grid has of its input
--   LanesOnGrid w s inputs                      in every lane the input rows hold such a vector
--   Product w m before after k a b              only row k was written: in a lane in which rows a and b stand for u and v modulo 2^m, row k
--                                               stands for their product
--   Stepped w s inputs before after k           only row k was written, with the value of step k in each lane in which the rows before it hold
--                                               theirs
--   Chosen n count R                            the relation R gives each q below the count an index below n, one alone, and in increasing order
--   Unchosen count R i                          i is not among these
--   StepsRun w s n inputs before after count R  R gives each q below the count an index; where the rows of the others held the values at a vector, all
--                                               n rows hold them
--   AllRun w s n inputs after                   all n rows hold the values at the lanes' vectors
--   ListedRun w s n inputs before after list c  where the rows held the values at a vector beside the lane's, and each step that is not listed
--                                               does not depend on the input in which the two differ, all n rows hold the values at the lane's
--                                               vector
use Rattle.std.specs.Prelude.{◌⊎◌, ◌≡◌, List, ℕ, ◌*◌, ◌%◌, ◌^◌, ◌≤◌, ◌<◌, ℤ, ◌*ℤ◌, length, get_or}
use Rattle.dependence.specs.Dependence.{value_at, Beside, Rest}
use Rattle.evaluate.specs.Run.{word_output}
use Rattle.file.specs.Accepted.{Accepted}
use Rattle.fields.specs.File.{sizes_of, step_count}
use Rattle.integers.specs.Modulo.{remainder}
use Rattle.rows.specs.Rows.{max_lanes, lane, OthersKept}
use Rattle.vectors.specs.Vectors.{GridWord}

abbrev pub few_lanes : ℕ
few_lanes = 8

abbrev pub Width : ℕ → Type 0
Width w = (w ≡ max_lanes) ⊎ (w ≡ few_lanes)

abbrev pub Reads : ℕ → List ℕ → List ℕ → ℕ → List ℕ → Type 0
Reads w s inputs l x = (i : ℕ) → i < (sizes_of s).d → lane w inputs i l ≡ get_or x i 0

abbrev pub StandsFor : ℕ → ℕ → ℤ → Type 0
StandsFor m x u = x % 2 ^ m ≡ remainder u (2 ^ m)

abbrev pub Held : ℕ → List ℕ → List ℕ → List ℕ → ℕ → ℕ → Type 0
Held w s x rows l i = StandsFor (sizes_of s).m (lane w rows i l) (value_at s x i)

abbrev pub HeldTo : ℕ → List ℕ → List ℕ → List ℕ → ℕ → ℕ → Type 0
HeldTo w s x rows l k = (i : ℕ) → i < k → Held w s x rows l i

abbrev pub Shown : ℕ → List ℕ → List ℕ → List ℕ → ℕ → ℕ → Type 0
Shown w s x rows l k = lane w rows k l % 2 ^ (sizes_of s).m ≡ word_output s x

pub record Room (w : ℕ) (s : List ℕ) (n : ℕ) (inputs rows : List ℕ) : Type 0 where
  pub width : Width w
  pub sound : Accepted s
  pub count : n ≡ step_count s
  pub input_rows : w * (sizes_of s).d ≤ length inputs
  pub step_rows : w * n ≤ length rows

abbrev pub VectorOnGrid : List ℕ → List ℕ → Type 0
VectorOnGrid s x = (i : ℕ) → i < (sizes_of s).d → GridWord (sizes_of s) i (get_or x i 0)

abbrev pub LanesOnGrid : ℕ → List ℕ → List ℕ → Type 0
LanesOnGrid w s inputs = (i l : ℕ) → i < (sizes_of s).d → l < w → GridWord (sizes_of s) i (lane w inputs i l)

pub record Product (w m : ℕ) (before after : List ℕ) (k a b : ℕ) : Type 0 where
  pub row :
      (l : ℕ) (u v : ℤ) → l < w → StandsFor m (lane w before a l) u → StandsFor m (lane w before b l) v → StandsFor m (lane w after k l) (u *ℤ v)
  pub others : OthersKept w before after k

pub record Stepped (w : ℕ) (s inputs before after : List ℕ) (k : ℕ) : Type 0 where
  pub row : (l : ℕ) (x : List ℕ) → l < w → Reads w s inputs l x → HeldTo w s x before l k → Held w s x after l k
  pub others : OthersKept w before after k

pub record Chosen (n count : ℕ) (R : ℕ → ℕ → Type 0) : Type 0 where
  pub below : (q k : ℕ) → q < count → R q k → k < n
  pub single : (q i k : ℕ) → q < count → R q i → R q k → i ≡ k
  pub increasing : (p q i k : ℕ) → p < q → q < count → R p i → R q k → i < k

abbrev pub Unchosen : ℕ → (ℕ → ℕ → Type 0) → ℕ → Type 0
Unchosen count R i = (q k : ℕ) → q < count → R q k → ¬ (k ≡ i)

pub record StepsRun (w : ℕ) (s : List ℕ) (n : ℕ) (inputs before after : List ℕ) (count : ℕ) (R : ℕ → ℕ → Type 0) : Type 0 where
  pub chosen : (q : ℕ) → q < count → (k : ℕ) × R q k
  pub held :
      (l : ℕ) (x : List ℕ) → l < w → Reads w s inputs l x → ((i : ℕ) → i < n → Unchosen count R i → Held w s x before l i) → HeldTo w s x after l n

abbrev pub AllRun : ℕ → List ℕ → ℕ → List ℕ → List ℕ → Type 0
AllRun w s n inputs after = (l : ℕ) (x : List ℕ) → l < w → Reads w s inputs l x → HeldTo w s x after l n

abbrev pub ListedRun : ℕ → List ℕ → ℕ → List ℕ → List ℕ → List ℕ → List ℕ → ℕ → Type 0
ListedRun w s n inputs before after list c =
    (j l : ℕ) (x y : List ℕ) → l < w → Rest s j n list c → Beside j x y → Reads w s inputs l y → HeldTo w s x before l n → HeldTo w s y after l n
