-- The value that a word gives to an input, as it is written: the word itself, or, where it is negative, a minus sign and what the word lacks of
-- 2^64. And the values of several inputs by their entries. Assumes nothing.
use mathlib.Core.Bool.{Bool, true, false}
use mathlib.Core.List.{List, [], ◌∷◌, ◌++◌, map}
use mathlib.Core.Logic.{◌⊎◌, inl, inr}
use mathlib.Core.Path.{◌≡◌, refl, ◌∙◌, ap}
use Prim.Native.Nat.{ℕ, suc, ◌+◌, ◌-◌, ◌^◌, ◌≤◌, ◌<◌, min}
use native.Mathlib.Decide.{dec_lt}
use native.Mathlib.Omega.{arith}
use borrow.Author.Tests.{ltb-true}
use lib.IntN.{pos, negsuc}
use lib.ListN.{length, get_or, length-map, get_or-map}
use lib.Signed.{lt_z}
use Rattle.formats.specs.Bytes.{format_of}
use Rattle.formats.specs.declared.Format.{Format}
use Rattle.input_words.specs.InputWords.{value_of, values_of}
use Rattle.input_words.proofs.InputWords.{signed-natural, signed-negative, value-signed, value-unsigned, values-entry}
use Rattle.text.specs.Decimal.{decimal, minus, integer}
use Rattle.text.specs.Text.{space, spaced, spaced_by, spaced_integers}
use Rattle.text.proofs.Spaced.{spaced_one}

module _ (f : Format) (w : ℕ) (h : w < 2 ^ 64) where
  -- the value by its sign
  by_sign : (value_of f w ≡ pos w) ⊎ ((2 ^ 63 ≤ w) × (value_of f w ≡ negsuc (2 ^ 64 - suc w)))
  by_sign = by-mark f.signed refl
    where
      by-mark : (s : Bool) → f.signed ≡ s → (value_of f w ≡ pos w) ⊎ ((2 ^ 63 ≤ w) × (value_of f w ≡ negsuc (2 ^ 64 - suc w)))
      by-mark false e = inl (value-unsigned f w e)
      by-mark true e =
          elim (dec_lt w (2 ^ 63)) [
            | yes l ↦ inl (value-signed f w e ∙ signed-natural w l)
            | no l ↦ inr (omega arith, value-signed f w e ∙ signed-negative w (omega arith) h)
          ]

  pub value-natural : lt_z (value_of f w) (pos 0) ≡ false → spaced_integers (value_of f w ∷ []) ≡ spaced (w ∷ [])
  unfolding spaced_by integer
  value-natural t =
      elim by_sign [
        | inl e ↦ rw e
        | inr e ↦ absurd (let z : ◌≡◌ {A = ℕ} 0 1 = cc in omega arith)
      ]

  pub value-negative :
      lt_z (value_of f w) (pos 0) ≡ true →
      (2 ^ 63 ≤ w) × (spaced_integers (value_of f w ∷ []) ≡ (space ∷ minus ∷ []) ++ decimal (2 ^ 64 - 1 - w + 1))
  unfolding integer
  value-negative t =
      elim by_sign [
        | inl e ↦ absurd (omega (arith, ltb-true w 0 (rw e at t)))
        | inr e ↦
            let q : 2 ^ 64 - suc w + 1 ≡ 2 ^ 64 - 1 - w + 1 = omega arith in
            (e.0, rw (e.1, spaced_one integer (negsuc (2 ^ 64 - suc w)), q))
      ]

-- as many values as there are inputs and words
length-values : (fs : List Format) (ws : List ℕ) → length (values_of fs ws) ≡ min (length fs) (length ws)
unfolding values_of
length-values [] ws = omega arith
length-values (f ∷ fs) [] = omega arith
length-values (f ∷ fs) (w ∷ ws) = omega (arith, length-values fs ws)

-- the values of inputs that are given by their width bytes
module _ (widths ws : List ℕ) where
  pub length-written : length (values_of (map format_of widths) ws) ≡ min (length widths) (length ws)
  length-written = length-values (map format_of widths) ws ∙ ap (λ n. min n (length ws)) (length-map widths format_of)

  pub written_entry :
      (i : ℕ) → i < length widths → i < length ws →
      get_or (values_of (map format_of widths) ws) i (pos 0) ≡ value_of (format_of (get_or widths i 0)) (get_or ws i 0)
  written_entry i h k =
      values-entry (map format_of widths) ws i (format_of 0) (omega (arith, length-map widths format_of)) k
      ∙ ap (λ (f : Format). value_of f (get_or ws i 0)) (get_or-map format_of widths i 0)
