-- An array with an entry for each input, filled from the width bytes one by one: its front is a map of the bytes, and the rest are zeros.
-- Assumes nothing.
use mathlib.Core.Path.{◌≡◌, sym, ◌∙◌, ap, ap₂}
use mathlib.Core.List.{List, ◌++◌, map}
use Prim.Native.Nat.{ℕ, suc, ◌+◌, ◌-◌, ◌≤◌, ◌<◌}
use native.Mathlib.Omega.{arith}
use lib.ListN.{length, get_or, take, drop, set, replicate, length-map, length-replicate}
use lib.Seq.{length-take-le}
use Rattle.lists.proofs.Lists.{set_front, map-take}
use Rattle.sizes.specs.Padded.{padded}
use Rattle.sizes.specs.Sizes.{max_inputs}

-- the first i of d entries are in their place
pub record Filled (F : ℕ → ℕ) (d : ℕ) (widths array : List ℕ) (i : ℕ) : Type 0 where
  pub known : length widths ≡ max_inputs
  pub within : i ≤ d
  pub filled : array ≡ map F (take i widths) ++ replicate (max_inputs - i) 0

module _ (F : ℕ → ℕ) (d : ℕ) (widths array : List ℕ) (i : ℕ) (f : Filled F d widths array i) (h : d ≤ max_inputs) where
  front : i ≤ max_inputs → length (map F (take i widths)) ≡ i
  front l = rw (length-map, length-take-le i widths (omega (arith, f.known)))

  pub filled_more : (u : ℕ) → i < d → u ≡ F (get_or widths i 0) → Filled F d widths (set array i u) (i + 1)
  filled_more u l e = record { known = f.known; within = omega arith; filled = placed }
    where
      left : max_inputs - i ≡ suc (max_inputs - (i + 1))
      left = omega arith

      placed : set array i u ≡ map F (take (i + 1) widths) ++ replicate (max_inputs - (i + 1)) 0
      placed =
          rw (f.filled, e)
          (set_front (map F (take i widths)) (replicate (max_inputs - i) 0) i (F (get_or widths i 0)) (front (omega arith)) (rw length-replicate (omega arith))
          ∙ ap₂ ◌++◌ (sym (map-take F widths i (omega (arith, f.known)))) (ap (λ n. drop 1 (replicate n 0)) left))

  -- all of them
  pub filled-all : i ≡ d → array ≡ padded (map F (take d widths))
  filled-all e =
      f.filled
      ∙ ap (λ n. map F (take i widths) ++ replicate (max_inputs - n) 0) (sym (front (omega (arith, f.within))))
      ∙ ap (λ n. padded (map F (take n widths))) e
