-- Sizes that are written into words: m and d first, and then the word lengths one by one. By the laws of slices that are written entry by
-- entry. Assumes nothing.
use mathlib.Core.List.{List, [], ◌∷◌, ◌++◌}
use mathlib.Core.Path.{◌≡◌, refl, ◌∙◌, ap}
use Prim.Native.Nat.{ℕ, ◌+◌, ◌≤◌, ◌<◌}
use native.Mathlib.Omega.{arith}
use lib.ListN.{length, get_or, take, drop, set}
use lib.Seq.{drop-drop, get_or-drop}
use Rattle.layouts.specs.Lengths.{sizes_length}
use Rattle.layouts.specs.SizeWords.{size_words}
use Rattle.sizes.specs.Sizes.{max_inputs}
use Rattle.sizes.specs.declared.Sizes.{Sizes}
use Rattle.slices.specs.Slices.{overwritten}
use Rattle.slices.proofs.Copied.{Copied, more, whole}

-- the first two words, and then the word lengths
abbrev pub headed : List ℕ → List ℕ → List ℕ
headed out widths = get_or out 0 0 ∷ get_or out 1 0 ∷ widths

-- m and d are written, and i of the word lengths
pub record Put (out₀ widths out : List ℕ) (i : ℕ) : Type 0 where
  pub long : sizes_length ≤ length out₀
  pub put : Copied (headed out₀ widths) out₀ sizes_length out (2 + i)

two : (out widths : List ℕ) → 2 ≤ length out → out ≡ take 2 (headed out widths) ++ drop 2 out
two [] widths l = absurd (omega arith)
two (x ∷ []) widths l = absurd (omega arith)
two (x ∷ y ∷ out) widths l = refl

pub none-put : (out₀ widths : List ℕ) → sizes_length ≤ length out₀ → Put out₀ widths out₀ 0
none-put out₀ widths l =
    record { long = l; put = record { within = omega arith; long = refl; copied = two out₀ widths (omega arith) } }

pub more-put :
    (out₀ widths out : List ℕ) (i : ℕ) → Put out₀ widths out i → i < max_inputs → length widths ≡ max_inputs →
    Put out₀ widths (set out (2 + i) (get_or widths i 0)) (i + 1)
more-put out₀ widths out i h l e =
    let next : 2 + i + 1 ≡ 2 + (i + 1) = omega arith in
    record {
      long = h.long;
      put =
          rw (← next)
          (more (headed out₀ widths) out₀ sizes_length out (2 + i) h.put (get_or widths i 0) (omega arith) (omega arith) h.long
          (get_or-drop 2 (headed out₀ widths) i 0));
    }

stored : (m d : ℕ) (out : List ℕ) → 2 ≤ length out → set (set out 0 m) 1 d ≡ m ∷ d ∷ drop 2 out
stored m d [] l = absurd (omega arith)
stored m d (x ∷ []) l = absurd (omega arith)
stored m d (x ∷ y ∷ out) l = refl

pub all-put :
    (z : Sizes) (entry out : List ℕ) (i : ℕ) → sizes_length ≤ length entry →
    Put (set (set entry 0 z.m) 1 z.d) z.widths out i → max_inputs ≤ i →
    out ≡ overwritten sizes_length (size_words z) entry
unfolding size_words
all-put z entry out i l h e =
    let out₀ = set (set entry 0 z.m) 1 z.d in
    whole (headed out₀ z.widths) out₀ sizes_length out (2 + i) h.put (omega arith)
    ∙ ap (λ o. take sizes_length (headed o z.widths) ++ drop sizes_length o) (stored z.m z.d entry (omega arith))
    ∙ ap (λ o. z.m ∷ z.d ∷ (take max_inputs z.widths ++ o)) (drop-drop max_inputs 2 entry)
