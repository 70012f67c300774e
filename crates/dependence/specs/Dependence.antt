-- Which steps of a file depend on an input.
--   value_at s x i                            the exact value of step i of the file s at the words x, read as natural numbers
--   Beside j x y                             the words x and y are the same but for input j
--   Fixed s j i                              step i does not depend on input j
--   Listed n list c                          the first c entries of the list are indices below n, in increasing order
--   Rest s j n list c                        each of the first n steps that is not among them does not depend on input j
--   Unflagged flags l r q                    the answer q is false only where the flags l and r are both 0
--   Flagged s j flags k                      of the first k steps those with flag 0 do not depend on input j
--   MayDepend s j flags k q                  where the steps before step k are so flagged, the answer q is false only where step k does not depend
--                                            on input j
--   DependentListed s n j before after list c  what listing the steps that may depend on input j promises:
--       listed    the list
--       rest      the steps that are not listed do not depend on it
--       kept      past the first n the flags are as before
use Rattle.std.specs.Prelude.{Bool, false, List, ◌≡◌, ℕ, ◌≤◌, ◌<◌, ℤ, pos, length, get_or}
use Rattle.fields.specs.File.{step_count}
use Rattle.fields.specs.Steps.{steps_of}
use Rattle.slices.specs.Slices.{KeptPast}
use Rattle.datapath.specs.Steps.{values}
use Rattle.words.specs.Words.{plain}

unfoldable pub value_at : List ℕ → List ℕ → ℕ → ℤ
value_at s x i = get_or (values (steps_of s) (plain x) (step_count s)) i (pos 0)

abbrev pub Beside : ℕ → List ℕ → List ℕ → Type 0
Beside j x y = (i : ℕ) → ¬ (i ≡ j) → get_or x i 0 ≡ get_or y i 0

abbrev pub Fixed : List ℕ → ℕ → ℕ → Type 0
Fixed s j i = (x y : List ℕ) → Beside j x y → value_at s x i ≡ value_at s y i

pub record Listed (n : ℕ) (list : List ℕ) (c : ℕ) : Type 0 where
  pub room : c ≤ length list
  pub below : (q : ℕ) → q < c → get_or list q 0 < n
  pub increasing : (p q : ℕ) → p < q → q < c → get_or list p 0 < get_or list q 0

abbrev pub Rest : List ℕ → ℕ → ℕ → List ℕ → ℕ → Type 0
Rest s j n list c = (i : ℕ) → i < n → ((q : ℕ) → q < c → ¬ (get_or list q 0 ≡ i)) → Fixed s j i

abbrev pub Unflagged : List ℕ → ℕ → ℕ → Bool → Type 0
Unflagged flags l r q = q ≡ false → (get_or flags l 0 ≡ 0) × (get_or flags r 0 ≡ 0)

abbrev pub Flagged : List ℕ → ℕ → List ℕ → ℕ → Type 0
Flagged s j flags k = (i : ℕ) → i < k → get_or flags i 0 ≡ 0 → Fixed s j i

abbrev pub MayDepend : List ℕ → ℕ → List ℕ → ℕ → Bool → Type 0
MayDepend s j flags k q = Flagged s j flags k → q ≡ false → Fixed s j k

pub record DependentListed (s : List ℕ) (n j : ℕ) (before after list : List ℕ) (c : ℕ) : Type 0 where
  pub listed : Listed n list c
  pub rest : Rest s j n list c
  pub kept : KeptPast n before after
