-- The contracts of the calls that take sessions, by the case: which test finds the layout wrong, or it is right and the slices are as the
-- call leaves them. By the laws of tests. Assumes nothing.
use mathlib.Core.Bool.{true, false}
use mathlib.Core.List.{List}
use mathlib.Core.Path.{◌≡◌}
use Prim.Native.Nat.{ℕ}
use lib.ListN.{length}
use borrow.Author.Tests.{eq-eqb, ne_eqb}
use Rattle.layouts.specs.AnswerWords.{refusal_words, answer_words}
use Rattle.layouts.specs.Lengths.{session_length, refusal_length, answer_length}
use Rattle.layouts.specs.SessionWords.{session_words, session_fits, session_from}
use Rattle.sessions.specs.Session.{opened, continued_scratch}
use Rattle.session_calls.specs.SessionCalls.{open_fits, OpenCall, continue_fits, continuing, ContinueCall}

module _ (w o : List ℕ) where
  pub open_session-wrong : ¬ (length w ≡ session_length) → open_fits w o ≡ false
  unfolding open_fits
  open_session-wrong n = rw (ne_eqb (length w) session_length n)

  module _ (e : length w ≡ session_length) where
    pub open_out-wrong : ¬ (length o ≡ refusal_length) → open_fits w o ≡ false
    unfolding open_fits
    open_out-wrong n = rw (eq-eqb (length w) session_length e, ne_eqb (length o) refusal_length n)

    pub open_laid : length o ≡ refusal_length → open_fits w o ≡ true
    unfolding open_fits
    open_laid l = rw (eq-eqb (length w) session_length e, eq-eqb (length o) refusal_length l)

  pub continue_answer-wrong : ¬ (length o ≡ answer_length) → continue_fits w o ≡ false
  unfolding continue_fits
  continue_answer-wrong n = rw (ne_eqb (length o) answer_length n)

  pub continue_judged : length o ≡ answer_length → continue_fits w o ≡ session_fits w
  unfolding continue_fits
  continue_judged e = rw (eq-eqb (length o) answer_length e)

module _ (f₁ f₂ w o : List ℕ) where
  pub open_wrong : open_fits w o ≡ false → OpenCall f₁ f₂ w o 0 w o
  open_wrong e = record { result = rw e; session = rw e; out = rw e }

  pub open_right :
      (w' o' : List ℕ) → open_fits w o ≡ true → w' ≡ session_words (opened f₁ f₂).session →
      o' ≡ refusal_words (opened f₁ f₂).refusal → OpenCall f₁ f₂ w o 1 w' o'
  open_right w' o' e p q = record { result = rw e; session = rw e p; out = rw e q }

module _ (f₁ f₂ : List ℕ) (B : ℕ) (w s a : List ℕ) where
  pub continue_wrong : continue_fits w a ≡ false → ContinueCall f₁ f₂ B w s a 0 w s a
  continue_wrong e = record { result = rw e; session = rw e; answer = rw e; scratch = rw e }

  pub continue_right :
      (w' s' a' : List ℕ) → continue_fits w a ≡ true → w' ≡ session_words (continuing f₁ f₂ w B s).session →
      s' ≡ continued_scratch f₁ f₂ (session_from w) B s → a' ≡ answer_words (continuing f₁ f₂ w B s).answer →
      ContinueCall f₁ f₂ B w s a 1 w' s' a'
  continue_right w' s' a' e p q r = record { result = rw e; session = rw e p; answer = rw e r; scratch = rw e q }
