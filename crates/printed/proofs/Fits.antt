-- The text of an answer is never longer than text_room: an axis has at most two digits, and any other number, below 2^64, at most 20; a negative
-- value has a minus sign and at most 19; each has a space. There are at most max_inputs axes, as many values, and five numbers more. Assumes
-- nothing.
use mathlib.Core.Bool.{Bool, true, false, cond}
use mathlib.Core.Path.{◌≡◌, refl, ap}
use mathlib.Core.List.{List, [], ◌∷◌}
use Prim.Native.Nat.{ℕ, zero, suc, ◌+◌, ◌-◌, ◌*◌, ◌/◌, ◌^◌, ◌≤◌, ◌<◌}
use native.Mathlib.Nat.{le_trans, mul_comm, suc-mul, pow-succ', div-lt_iff_lt-mul}
use native.Mathlib.Decide.{dec_lt}
use native.Mathlib.Omega.{arith}
use lib.Dec.{lit≤, lit<}
use lib.IntN.{pos}
use lib.ListN.{length, get_or, length-append, length-map, length-take}
use Rattle.bound.specs.Axes.{axis, axes}
use Rattle.plan.proofs.Axes.{length-file-axes, file-grid-fits}
use Rattle.file.specs.Accepted.{Accepted}
use Rattle.fields.specs.File.{sizes_of}
use Rattle.formats.specs.declared.Format.{Format}
use Rattle.grid.specs.Grid.{axes_of, grid_size}
use Rattle.grid.proofs.Axes.{axis-most}
use Rattle.evaluate.specs.Evaluate.{vector_of}
use Rattle.input_words.specs.InputWords.{signed_value, value_of, values_of}
use Rattle.input_words.proofs.InputWords.{signed-natural, signed-negative, values_length}
use Rattle.sessions.specs.Session.{opened}
use Rattle.sessions.specs.declared.Answer.{Answer}
use Rattle.sessions.specs.declared.Kind.{Kind}
use Rattle.sessions.specs.declared.Kind.TheVariants.{Refused, Spent, Equivalent, Differs}
use Rattle.sizes.specs.Sizes.{max_inputs, formats_of}
use Rattle.sizes.specs.declared.Sizes.{Sizes}
use Rattle.printed.specs.Claims.{Words, Fits}
use Rattle.text.specs.Decimal.{decimal, integer}
use Rattle.printed.specs.Report.{grid_text, shown_text, concluded, report_of, text_room}
use Rattle.text.specs.Text.{spaced_by}
use Rattle.printed.specs.Lines.{refusal_line, grid_line, differ_line, equivalent_line, run_line}
use Rattle.text.proofs.Decimal.{decimal-last, length-decimal}
use Rattle.printed.proofs.Texts.{concluded-refused, concluded-lines, first-accepted, report_refused, report_spent, report_equivalent, report_differs}

-- a number below 10^(k + 1) has at most k + 1 digits
digits_most : (k n : ℕ) → n < 10 ^ suc k → length (decimal n) ≤ suc k
digits_most zero n h = omega (arith, ap length (decimal-last n h))
digits_most (suc k) n h =
    elim (dec_lt n 10) [
      | yes l ↦ omega (arith, ap length (decimal-last n l))
      | no l ↦
          let q = (div-lt_iff_lt-mul (lit< tt)).1 (rw (pow-succ' 10 (suc k), mul_comm 10 (10 ^ suc k)) at h) in
          omega (arith, length-decimal n (omega arith), digits_most k (n / 10) q)
    ]

decimal-most : (n : ℕ) → n < 2 ^ 64 → length (decimal n) ≤ 20
decimal-most n h = digits_most 19 n (le_trans h (lit≤ tt))

-- and so for a value, by the mark of its input
value-most : (f : Format) (w : ℕ) → w < 2 ^ 64 → length (integer (value_of f w)) ≤ 20
unfolding value_of integer
value-most f w h = by-mark f.signed
  where
    by-mark : (s : Bool) → length (integer (cond s (signed_value w) (pos w))) ≤ 20
    by-mark false = decimal-most w h
    by-mark true =
        elim (dec_lt w (2 ^ 63)) [
          | yes l ↦ rw (signed-natural w l) (decimal-most w h)
          | no l ↦
              let size : 2 ^ 64 - suc w + 1 < 10 ^ 19 = omega arith in
              rw (signed-negative w (omega arith) h) (omega (arith, digits_most 18 (2 ^ 64 - suc w + 1) size))
        ]

-- each of the entries has at most c bytes
abbrev Short : {A : Type 0} → (A → List ℕ) → ℕ → List A → Type 0
Short f c [] = Unit {0}
Short f c (x ∷ xs) = (length (f x) ≤ c) × Short f c xs

spaced-most : {A : Type 0} (f : A → List ℕ) (c : ℕ) (xs : List A) → Short f c xs → length (spaced_by f xs) ≤ length xs * suc c
unfolding spaced_by
spaced-most f c [] h = omega arith
spaced-most f c (x ∷ xs) h =
    rw (suc-mul (length xs) (suc c)) (omega (arith, length-append (f x) (spaced_by f xs), h.0, spaced-most f c xs h.1))

axes-short : (m : ℕ) → 1 ≤ m → m ≤ 64 → (fs : List Format) → Short decimal 2 (axes m fs)
axes-short m low high [] = tt
axes-short m low high (f ∷ fs) =
    (digits_most 1 (axis m f) (omega (arith, axis-most m low high f)), axes-short m low high fs)

values-short : (fs : List Format) (ws : List ℕ) → ((i : ℕ) → get_or ws i 0 < 2 ^ 64) → Short integer 20 (values_of fs ws)
unfolding values_of
values-short [] ws h = tt
values-short (f ∷ fs) [] h = tt
values-short (f ∷ fs) (w ∷ ws) h = (value-most f w (h 0), values-short fs ws (λ i. h (suc i)))

-- the lines
module _ (a : Answer) (w : Words a) where
  refusal-most : length (refusal_line a.refusal) ≤ 71
  unfolding refusal_line spaced_by
  refusal-most =
      simp length-append
      (omega (
        arith,
        decimal-most a.refusal.number w.number,
        decimal-most a.refusal.file w.file,
        decimal-most a.refusal.step w.step,
      ))

  differ-most : (z : Sizes) → z.d ≤ max_inputs → length (differ_line (vector_of z a.vector) a.output1 a.output2) ≤ 261
  unfolding differ_line spaced_by
  differ-most z h =
      let few : length (formats_of z) ≤ z.d = simp (length-map, length-take) (omega arith) in
      simp length-append
      (omega (
        arith,
        spaced-most integer 20 (vector_of z a.vector) (values-short (formats_of z) a.vector w.entries),
        values_length (formats_of z) a.vector (omega (arith, w.inputs)),
        decimal-most a.output1 w.output₁,
        decimal-most a.output2 w.output₂,
      ))

  equivalent-most : length equivalent_line ≤ 261
  unfolding equivalent_line
  equivalent-most = omega arith

  shown-most : (k : Kind) (z : Sizes) → z.d ≤ max_inputs → length (shown_text k z a) ≤ 261
  unfolding shown_text
  shown-most Refused z h = omega arith
  shown-most Spent z h = omega arith
  shown-most Equivalent z h = omega (arith, differ-most z h, equivalent-most)
  shown-most Differs z h = omega (arith, differ-most z h, equivalent-most)

run-most : (n : ℕ) → n < 2 ^ 64 → length (run_line n) ≤ 25
unfolding run_line spaced_by
run-most n h = simp length-append (omega (arith, decimal-most n h))

grid-most : (s : List ℕ) → Accepted s → length (grid_text s) ≤ 58
unfolding grid_text grid_line axes_of spaced_by
grid-most s a =
    simp length-append
    (omega (
      arith,
      spaced-most decimal 2 (axes_of (sizes_of s)) (axes-short (sizes_of s).m a.output_low a.output_high (formats_of (sizes_of s))),
      length-file-axes s a,
      a.inputs_high,
      decimal-most (grid_size (sizes_of s)) (file-grid-fits s a),
    ))

pub fits : Fits
fits f₁ f₂ a n w h = by a.kind refl
  where
    lines : report_of f₁ f₂ a n ≡ concluded f₁ f₂ a n → length (report_of f₁ f₂ a n) ≤ text_room
    lines e =
        elim (dec_lt 0 (opened f₁ f₂).refusal.number) [
          | yes o ↦ omega (arith, ap length e, ap length (concluded-refused f₁ f₂ a n (λ z. omega arith)))
          | no o ↦
              let z : (opened f₁ f₂).refusal.number ≡ 0 = omega arith in
              let s = first-accepted f₁ f₂ z in
              let three = ap length (concluded-lines f₁ f₂ z a n) in
              omega (
                arith,
                ap length e,
                simp length-append at three,
                grid-most f₁ s,
                shown-most a w a.kind (sizes_of f₁) s.inputs_high,
                run-most n h,
              )
        ]

    by : (k : Kind) → a.kind ≡ k → length (report_of f₁ f₂ a n) ≤ text_room
    by Refused e = omega (arith, ap length (report_refused f₁ f₂ a n e), refusal-most a w)
    by Spent e = omega (arith, ap length (report_spent f₁ f₂ a n e))
    by Equivalent e = lines (report_equivalent f₁ f₂ a n e)
    by Differs e = lines (report_differs f₁ f₂ a n e)
