-- Evaluating answers the number 0 exactly where the file, the room and the vector keep their rules: each test passes exactly where its rule holds.
-- Assumes nothing.
use Rattle.std.proofs.Common.{◌≡◌, ℕ, zero, suc, ◌<◌, true, false, eqb, List, [], ◌∷◌, length, get_or, sym, ap, ◌∙◌, subst, arith, eq-eqb}
use mathlib.Core.Bool.{and-eq-true_iff}
use borrow.Author.Tests.{not-false}
use Rattle.file.proofs.Accepted.{accepted}
use Rattle.file.proofs.Sound.{number_0}
use Rattle.formats.specs.Formats.{InFormat, FullWidth}
use Rattle.formats.specs.declared.Format.{Format}
use Rattle.input_words.specs.InputWords.{value_of, values_of}
use Rattle.input_words.proofs.InputWords.{words_values}
use Rattle.ranges.specs.Search.{every}
use Rattle.ranges.proofs.Search.{every-at, every_of}
use Rattle.sizes.specs.Sizes.{format_at, formats_of}
use Rattle.sizes.specs.declared.Refusal.{Refusal}
use Rattle.sizes.specs.declared.Sizes.{Sizes}
use Rattle.sizes.proofs.Formats.{length_formats, format_entry}
use Rattle.evaluate.specs.Evaluate.{vector_of, in_range, bad_vector, refusal_at}
use Rattle.evaluate.specs.Taken.{FullVector, FullVectorWidth, EvaluateTaken, EvaluateExactly}
use Rattle.evaluate.proofs.Answers.{passed, at_0, vector-long}

module _ (z : Sizes) (x : List ℕ) where
  all : bad_vector z x ≡ false → every (in_range z x) 0 z.d ≡ true
  unfolding bad_vector
  all e = ((and-eq-true_iff (eqb (length x) z.d) (every (in_range z x) 0 z.d)).0 (not-false _ e)).1

  inside : bad_vector z x ≡ false → (i : ℕ) → i < z.d → InFormat (format_at z i) (value_of (format_at z i) (get_or x i 0))
  unfolding in_range
  inside e i h = (words_values.test (format_at z i) (get_or x i 0)).0 (every-at (in_range z x) 0 z.d i (all e) (omega arith) (omega arith))

  pub vector-full : bad_vector z x ≡ false → FullVector z x
  vector-full e = record { count = vector-long z x e; inside = inside e }

  each : (i : ℕ) → InFormat (format_at z i) (value_of (format_at z i) (get_or x i 0)) → in_range z x i ≡ true
  unfolding in_range
  each i l = (words_values.test (format_at z i) (get_or x i 0)).1 l

  vector-taken : FullVector z x → bad_vector z x ≡ false
  unfolding bad_vector
  vector-taken f = rw (eq-eqb (length x) z.d f.count, every_of (in_range z x) 0 z.d (λ i _ l. each i (f.inside i (omega arith))))

pub evaluate_exactly : EvaluateExactly
evaluate_exactly s x len = (taken, zero)
  where
    taken : (refusal_at s x len).number ≡ 0 → EvaluateTaken s x len
    taken e =
        let p = passed s x len e in
        record { file = accepted s p.sound; room = p.room; vector = vector-full _ x p.fits }

    zero : EvaluateTaken s x len → (refusal_at s x len).number ≡ 0
    zero t = ap (λ (r : Refusal). r.number) (at_0 s x len (number_0 s t.file) t.room (vector-taken _ x t.vector))

-- words that give each input a value of its own give a full-width vector, and back
full_of :
    (fs : List Format) (ws : List ℕ) → length fs ≡ length ws → (f : Format) →
    ((i : ℕ) → i < length fs → InFormat (get_or fs i f) (value_of (get_or fs i f) (get_or ws i 0))) → FullWidth fs (values_of fs ws)
unfolding values_of
full_of [] [] e f h = tt
full_of [] (w ∷ ws) e f h = absurd (omega arith)
full_of (g ∷ fs) [] e f h = absurd (omega arith)
full_of (g ∷ fs) (w ∷ ws) e f h = (h 0 (omega arith), full_of fs ws (omega arith) f (λ i l. h (suc i) (omega arith)))

full_at :
    (fs : List Format) (ws : List ℕ) → length fs ≡ length ws → (f : Format) → FullWidth fs (values_of fs ws) →
    (i : ℕ) → i < length fs → InFormat (get_or fs i f) (value_of (get_or fs i f) (get_or ws i 0))
unfolding values_of
full_at [] ws e f h i l = absurd (omega arith)
full_at (g ∷ fs) [] e f h i l = absurd (omega arith)
full_at (g ∷ fs) (w ∷ ws) e f h zero l = h.0
full_at (g ∷ fs) (w ∷ ws) e f h (suc i) l = full_at fs ws (omega arith) f h.1 i (omega arith)

pub full_vector_width : FullVectorWidth
full_vector_width z ws h l = (wide, back)
  where
    each : length (formats_of z) ≡ length ws
    each = length_formats z h ∙ sym l

    -- input i, by its format
    Valued : ℕ → Format → Type 0
    Valued i f = InFormat f (value_of f (get_or ws i 0))

    wide : FullVector z ws → FullWidth (formats_of z) (vector_of z ws)
    wide v =
        full_of (formats_of z) ws each (format_at z 0)
        (λ i k. subst (Valued i) (sym (format_entry z h i (format_at z 0) (omega (arith, each)))) (v.inside i (omega (arith, each))))

    back : FullWidth (formats_of z) (vector_of z ws) → FullVector z ws
    back w =
        record {
          count = l;
          inside = λ i k. subst (Valued i) (format_entry z h i (format_at z 0) k) (full_at (formats_of z) ws each (format_at z 0) w i (omega (arith, each)));
        }
