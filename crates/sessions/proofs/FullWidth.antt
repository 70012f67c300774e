-- The vectors that evaluating takes are the full-width ones, and each of these is given by its words. Assumes nothing.
use mathlib.Core.List.{List, [], ◌∷◌, map}
use mathlib.Core.Path.{◌≡◌, refl, sym, ◌∙◌, ap, subst}
use Prim.Native.Nat.{ℕ, suc, ◌≤◌}
use native.Mathlib.Omega.{arith}
use lib.IntN.{ℤ}
use lib.ListN.{length, length-map}
use Rattle.evaluate.specs.Evaluate.{vector_of}
use Rattle.evaluate.specs.Taken.{FullVector}
use Rattle.evaluate.proofs.Taken.{full_vector_width}
use Rattle.fields.specs.File.{sizes_of}
use Rattle.fields.proofs.Heads.{length-widths}
use Rattle.file.specs.Accepted.{Accepted}
use Rattle.file.proofs.Sound.{file-ruled}
use Rattle.formats.specs.Formats as Formats
use Rattle.formats.specs.declared.Format.{Format}
use Rattle.input_words.proofs.InputWords.{values-words}
use Rattle.sizes.specs.Sizes.{formats_of}
use Rattle.sizes.specs.declared.Sizes.{Sizes}
use Rattle.sizes.proofs.Formats.{length_formats}
use Rattle.vectors.proofs.GridWords.{each_usable}
use Rattle.words.specs.Words.{word}
use Rattle.sessions.specs.Demand3.{FullWidth}
use Rattle.sessions.specs.Taken.{EachFullWidthTaken}

full-length : (fs : List Format) (x : List ℤ) → Formats.FullWidth fs x → length x ≡ length fs
full-length [] [] f = refl
full-length [] (v ∷ x) f = absurd f
full-length (g ∷ fs) [] f = absurd f
full-length (g ∷ fs) (v ∷ x) f = ap suc (full-length fs x f.1)

module _ (s : List ℕ) (a : Accepted s) where
  abbrev z : Sizes
  z = sizes_of s

  known : z.d ≤ length z.widths
  known = omega (arith, length-widths s, a.inputs_high)

  -- the words of a full-width vector give it
  given : (x : List ℤ) → FullWidth s x → vector_of z (map word x) ≡ x
  given x f = values-words (formats_of z) x (each_usable z (length-widths s) (file-ruled s a)) f

  each : (x : List ℤ) → FullWidth s x → FullVector z (map word x) × (vector_of z (map word x) ≡ x)
  each x f =
      let count = length-map x word ∙ full-length (formats_of z) x f ∙ length_formats z known in
      ((full_vector_width z (map word x) known count).1 (subst (Formats.FullWidth (formats_of z)) (sym (given x f)) f), given x f)

pub each_full_width_taken : EachFullWidthTaken
each_full_width_taken s a = record { taken = λ ws l. full_vector_width (sizes_of s) ws (known s a) l; each = each s a }
