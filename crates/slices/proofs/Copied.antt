-- A list that is written entry by entry over the front of another: after i writes its first i entries stand there, the others as before.
use mathlib.Core.List.{List, [], ◌∷◌, ◌++◌}
use mathlib.Core.Path.{◌≡◌, refl, sym, ◌∙◌, ap₂}
use Prim.Native.Nat.{ℕ, ◌+◌, ◌≤◌, ◌<◌}
use native.Mathlib.Numerals.{add-one}
use native.Mathlib.Omega.{arith}
use lib.ListN.{length, get_or, take, drop, set, length-set, length-drop}
use lib.Seq.{take-suc, drop-drop, length-take-le}
use Rattle.lists.proofs.Lists.{set_front}

-- to is the list to₀ with the first i of count entries of `from` written over it
pub record Copied (from to₀ : List ℕ) (count : ℕ) (to : List ℕ) (i : ℕ) : Type 0 where
  pub within : i ≤ count
  pub long : length to ≡ length to₀
  pub copied : to ≡ take i from ++ drop i to₀

pub none : (from to₀ : List ℕ) (count : ℕ) → Copied from to₀ count to₀ 0
none from to₀ count = record { within = omega arith; long = refl; copied = refl }

module _ (from to₀ : List ℕ) (count : ℕ) (to : List ℕ) (i : ℕ) (h : Copied from to₀ count to i) where
  pub more :
      (a : ℕ) → i < count → count ≤ length from → count ≤ length to₀ → a ≡ get_or from i 0 → Copied from to₀ count (set to i a) (i + 1)
  more a l f t e =
      record {
        within = omega arith;
        long = rw length-set h.long;
        copied = ap₂ (λ xs b. set xs i b) h.copied e ∙ extended;
      }
    where
      some : 0 < length (drop i to₀)
      some = rw length-drop (omega arith)

      next : take (i + 1) from ≡ take i from ++ (get_or from i 0 ∷ [])
      next = rw (add-one i) (take-suc from i 0 (omega arith))

      extended : set (take i from ++ drop i to₀) i (get_or from i 0) ≡ take (i + 1) from ++ drop (i + 1) to₀
      extended =
          set_front (take i from) (drop i to₀) i (get_or from i 0) (length-take-le i from (omega arith)) some
          ∙ ap₂ ◌++◌ (sym next) (drop-drop 1 i to₀)

  pub whole : count ≤ i → to ≡ take count from ++ drop count to₀
  whole l =
      let e : i ≡ count = omega (arith, h.within) in
      rw (← e) h.copied
