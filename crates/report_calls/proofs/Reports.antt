-- The contract of the call on reports, by the case: the layout is wrong, the answer is of no kind, or the text is written. By the laws of tests.
use mathlib.Core.Bool.{true, false}
use mathlib.Core.List.{List, [], ◌∷◌}
use mathlib.Core.Path.{◌≡◌, refl, sym, ◌∙◌, ap}
use Prim.Native.Nat.{ℕ, ◌≤◌, ◌<◌}
use native.Mathlib.Decide.{ℕ_discrete}
use native.Mathlib.Omega.{arith}
use lib.ListN.{length, set}
use borrow.Author.Tests.{eq-eqb, ne_eqb, lt-leb, le-leb}
use Rattle.layouts.specs.AnswerWords.{answer_fits, answer_from}
use Rattle.layouts.specs.Lengths.{answer_length}
use Rattle.report.specs.Report.{report_of, reported, text_room}
use Rattle.sessions.specs.declared.Answer.{Answer}
use Rattle.report.specs.Writing.{TextWritten}
use Rattle.report.proofs.Texts.{reported-whole}
use Rattle.report_calls.specs.ReportCalls.{report_length, report_fits, report_text, ReportCall}

pub text_short : (a t o : List ℕ) → length t < text_room → report_fits a t o ≡ false
unfolding report_fits
text_short a t o l =
    elim (ℕ_discrete (length a) answer_length) [
      | yes e ↦ rw (eq-eqb (length a) answer_length e, lt-leb text_room (length t) l)
      | no n ↦ rw (ne_eqb (length a) answer_length n)
    ]

-- a slice of one word, written
pub one-written : (o : List ℕ) (v : ℕ) → length o ≡ report_length → set o 0 v ≡ v ∷ []
one-written [] v e = absurd (omega (arith, e))
one-written (x ∷ []) v e = refl
one-written (x ∷ y ∷ o) v e = absurd (omega (arith, e))

module _ (f₁ f₂ a : List ℕ) (n : ℕ) (t o : List ℕ) where
  report_wrong : report_fits a t o ≡ false → ReportCall f₁ f₂ a n t o 0 t o
  report_wrong e = record { result = rw e; text = rw e; out = rw e }

  pub answer-wrong : ¬ (length a ≡ answer_length) → ReportCall f₁ f₂ a n t o 0 t o
  unfolding report_fits
  answer-wrong x = report_wrong (rw (ne_eqb (length a) answer_length x))

  module _ (laid : length a ≡ answer_length) where
    pub text-wrong : length t < text_room → ReportCall f₁ f₂ a n t o 0 t o
    unfolding report_fits
    text-wrong l = report_wrong (rw (eq-eqb (length a) answer_length laid, lt-leb text_room (length t) l))

    module _ (room : text_room ≤ length t) where
      pub out-wrong : ¬ (length o ≡ report_length) → ReportCall f₁ f₂ a n t o 0 t o
      unfolding report_fits
      out-wrong x =
          report_wrong (rw (eq-eqb (length a) answer_length laid, le-leb text_room (length t) room, ne_eqb (length o) report_length x))

      module _ (one : length o ≡ report_length) where
        right : report_fits a t o ≡ true
        unfolding report_fits
        right = rw (eq-eqb (length a) answer_length laid, le-leb text_room (length t) room, eq-eqb (length o) report_length one)

        no_text : answer_fits a ≡ false → report_text f₁ f₂ a n ≡ []
        unfolding report_text
        no_text e = rw e

        some-text : answer_fits a ≡ true → report_text f₁ f₂ a n ≡ report_of f₁ f₂ (answer_from a) n
        unfolding report_text
        some-text e = rw e

        pub no_kind : answer_fits a ≡ false → (o' : List ℕ) → o' ≡ 0 ∷ [] → ReportCall f₁ f₂ a n t o 1 t o'
        no_kind e o' q = record { result = rw right; text = rw (right, no_text e); out = rw (right, no_text e) q }

        pub told :
            answer_fits a ≡ true → (b : Answer) → b ≡ answer_from a → (t' o' : List ℕ) (r : ℕ) →
            TextWritten (reported f₁ f₂ b n (length t)) t t' r → o' ≡ r ∷ [] → ReportCall f₁ f₂ a n t o 1 t' o'
        told e b g t' o' r w q =
            let s = sym (reported-whole f₁ f₂ b n (length t) room ∙ ap (λ c. report_of f₁ f₂ c n) g) in
            record {
              result = rw right;
              text = rw (right, some-text e, s) w.text;
              out = rw (right, some-text e, s) (q ∙ ap (λ k. k ∷ []) w.count);
            }
