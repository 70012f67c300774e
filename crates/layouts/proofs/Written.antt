-- Words that are written over the front of a slice or of its part from a on. By the laws of lib.Seq. Assumes nothing.
use mathlib.Core.List.{List, [], ◌++◌, append-nil}
use mathlib.Core.Path.{◌≡◌, ◌∙◌, ap, ap₂}
use Prim.Native.Nat.{ℕ, ◌-◌}
use native.Mathlib.Omega.{arith}
use lib.ListN.{length, take, drop, length-drop, drop_of_length-le}
use lib.Seq.{take_all}
use Rattle.slices.specs.Slices.{overwritten}

-- over exactly as many words they are all that stands there
pub all-written : (n : ℕ) (words out : List ℕ) → length words ≡ n → length out ≡ n → overwritten n words out ≡ words
all-written n words out e h =
    ap₂ ◌++◌ (take_all n words (omega arith)) (drop_of_length-le out {i = n} (omega arith)) ∙ append-nil words

-- the part from a on, which has k words
module _ (a k : ℕ) (out : List ℕ) (e : k ≡ length out - a) where
  pub part_whole : take k (drop a out) ≡ drop a out
  part_whole = take_all k (drop a out) (simp length-drop (omega arith))

  -- put back it is the rest of the slice
  pub part_back : (part : List ℕ) → take a out ++ (part ++ drop k (drop a out)) ≡ take a out ++ part
  part_back part =
      let none : drop k (drop a out) ≡ [] = drop_of_length-le (drop a out) {i = k} (simp length-drop (omega arith)) in
      ap (λ l. take a out ++ (part ++ l)) none ∙ ap (λ l. take a out ++ l) (append-nil part)
