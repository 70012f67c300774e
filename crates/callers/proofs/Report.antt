-- The printed text for a caller in C: the words of an answer give back the answer, whose text the library's claims tell. The layout of a report
-- is opened once, and a kind word that is not 0, 2 or 3 is that of a spent budget, or of no kind. Assumes nothing.
use mathlib.Core.Bool.{true, false}
use mathlib.Core.Logic.{◌⊎◌, inl, inr, ⊎_elim}
use mathlib.Core.List.{List, [], ◌∷◌, ◌++◌}
use mathlib.Core.Path.{◌≡◌, refl, sym, ◌∙◌, ap, subst}
use Prim.Native.Nat.{ℕ, ◌≤◌}
use native.Mathlib.Omega.{arith}
use lib.ListN.{length, take, drop, length-take, length-drop, take-append-drop}
use lib.Seq.{take-append-le}
use Rattle.evaluate.specs.Evaluate.{vector_of}
use Rattle.fields.proofs.Heads.{length-widths}
use Rattle.input_words.proofs.InputWords.{values-take}
use Rattle.sizes.specs.declared.Sizes.{Sizes}
use Rattle.sizes.proofs.Formats.{length_formats}
use Rattle.fields.specs.File.{sizes_of}
use Rattle.layouts.specs.AnswerWords.{kind_from, answer_words, answer_fits, answer_from}
use Rattle.sizes.specs.Sizes.{max_inputs, formats_of}
use Rattle.layouts.specs.Lengths.{word_at, at_number, at_vector, at_output₁, at_output₂, answer_length}
use Rattle.layouts.specs.SessionWords.{session_from}
use Rattle.layouts.proofs.Answers.{answers_as_words}
use Rattle.layouts.proofs.Sessions.{sessions_as_words}
use Rattle.layouts.proofs.Told.{answer-told, answer-fits}
use Rattle.printed.specs.Claims.{differ_words}
use Rattle.printed.specs.Report.{report_of, printed}
use Rattle.printed.proofs.InFull.{reported_in_full, refused_reported}
use Rattle.printed.proofs.Printed.{refused_text}
use Rattle.printed.proofs.Shown.{no_text, shown_as_is}
use Rattle.printed.proofs.Texts.{report_spent}
use Rattle.report_calls.specs.ReportCalls.{report_fits, report_text, ReportCall}
use Rattle.ranges.proofs.Search.{true_or_false}
use Rattle.session_calls.specs.SessionCalls.{open_fits, continue_fits}
use Rattle.sessions.specs.Calls.{answer_to, session_after, IsVerdict}
use Rattle.sessions.specs.Demand3.{start}
use Rattle.sessions.specs.Session.{opened, continued}
use Rattle.sessions.specs.declared.Kind.{Kind}
use Rattle.sessions.specs.declared.Kind.TheVariants.{Refused, Spent, Equivalent, Differs}
use Rattle.sessions.specs.declared.Session.{Session}
use Rattle.sessions.proofs.Pair.{pair-accepted, comparable}
use Rattle.callers.specs.Made.{Made, runs}
use Rattle.callers.specs.ReportInC.{ShownInC, ReportInC, RefusedReportInC, NoText, Stands, RefusedTextInC, VerdictTextInC, NoTextInC}
use Rattle.callers.proofs.Demand3.{number_0, start-words, verdict-told}
use Rattle.callers.proofs.Mirror.{call, Mirror, mirrored, runs-told, allowed_told, passed}
use Rattle.callers.proofs.Refused.{right-told, right-left}
use Rattle.callers.proofs.Taken.{taken_in_c}

-- the text of the words of a continue call's answer is the answer's
said-text :
    (f₁ f₂ g₁ g₂ : List ℕ) (q : Session) (B len : ℕ) (w : List ℕ) (n : ℕ) → w ≡ answer_words (continued g₁ g₂ q B len).answer →
    report_text f₁ f₂ w n ≡ report_of f₁ f₂ (continued g₁ g₂ q B len).answer n
unfolding report_text
said-text f₁ f₂ g₁ g₂ q B len w n e =
    let whole = answers_as_words.continued g₁ g₂ q B len in
    let a = (continued g₁ g₂ q B len).answer in
    rw (ap answer_fits e ∙ answers_as_words.fits a whole, ap answer_from e ∙ answers_as_words.decoded a whole)

module _ (f₁ f₂ a : List ℕ) (n : ℕ) (t l t' l' : List ℕ) (r : ReportCall f₁ f₂ a n t l 1 t' l') (e : report_text f₁ f₂ a n ≡ printed f₁ f₂) where
  shown : ShownInC f₁ f₂ t t' l'
  shown =
      let laid : report_fits a t l ≡ true = right-told 1 _ r.result refl in
      record {
        text = right-left _ _ t _ r.text laid ∙ ap (λ u. u ++ drop (length u) t) e;
        count = right-left _ _ l _ r.out laid ∙ ap (λ (u : List ℕ). length u ∷ []) e;
      }

pub report_in_c : ReportInC
unfolding answer_to
report_in_c f₁ f₂ w₀ o w o' h zero cs chain allowed before c after split v t l t' l' r =
    let e = number_0 f₁ f₂ w₀ o w o' h zero in
    let m = mirrored (start f₁ f₂) (sessions_as_words.opened f₁ f₂) w (start-words f₁ f₂ w₀ o w o' h zero) cs chain in
    let p = passed before c after v.laid (subst (λ (k : List Made). Mirror (start f₁ f₂) k m.calls) split m.mirror) in
    let σ = session_after (start f₁ f₂) p.earlier in
    let whole =
    reported_in_full f₁ f₂ e m.calls (allowed_told f₁ f₂ m.mirror allowed) p.earlier (call c) p.later p.split (verdict-told p.here v) in
    shown f₁ f₂ c.answer' (runs cs) t l t' l' r
    (said-text f₁ f₂ c.file₁ c.file₂ σ c.budget (length c.scratch) c.answer' (runs cs) p.here.said
    ∙ ap (report_of f₁ f₂ (answer_to σ (call c)).answer) (runs-told m.mirror)
    ∙ whole)

pub refused_report_in_c : RefusedReportInC
refused_report_in_c f₁ f₂ w₀ o w o' h x B s a w' s' a' k b n t l t' l' r =
    let laid : open_fits w₀ o ≡ true = right-told 1 _ h.result refl in
    let went : continue_fits w a ≡ true = right-told 1 _ k.result refl in
    let words = right-left _ _ w₀ _ h.session laid in
    let back = ap session_from words ∙ sessions_as_words.decoded (opened f₁ f₂).session (sessions_as_words.opened f₁ f₂) in
    let said = right-left _ _ a _ k.answer went ∙ ap (λ q. answer_words (continued f₁ f₂ q B (length s)).answer) back in
    let number = ap (λ l. word_at l at_number) (right-left _ _ o _ h.out laid) in
    shown f₁ f₂ a' n t l t' l' r
    (said-text f₁ f₂ f₁ f₂ (opened f₁ f₂).session B (length s) a' n said
    ∙ refused_reported f₁ f₂ (λ e. x (number ∙ e)) B (length s) n b)

-- the kind that a kind word gives
kind_0 : kind_from 0 ≡ Refused
unfolding kind_from
kind_0 = refl

kind_1 : kind_from 1 ≡ Spent
unfolding kind_from
kind_1 = refl

kind_2 : kind_from 2 ≡ Equivalent
unfolding kind_from
kind_2 = refl

kind_3 : kind_from 3 ≡ Differs
unfolding kind_from
kind_3 = refl

-- the answer that words give has it
kind-given : (a : List ℕ) {n : ℕ} {k : Kind} → kind_from n ≡ k → word_at a 3 ≡ n → (answer_from a).kind ≡ k
unfolding answer_from
kind-given a q e = ap kind_from e ∙ q

-- a call that returned 1 writes the text of these words
module _ (f₁ f₂ a : List ℕ) (n : ℕ) (t l t' l' : List ℕ) (r : ReportCall f₁ f₂ a n t l 1 t' l') where
  laid : report_fits a t l ≡ true
  laid = right-told 1 _ r.result refl

  stands : {P : List ℕ → Type 0} → P (report_text f₁ f₂ a n) → Stands P t t' l'
  stands p =
      record {
        said = report_text f₁ f₂ a n;
        told = p;
        text = right-left _ _ t _ r.text laid;
        count = right-left _ _ l _ r.out laid;
      }

  -- words of a kind are an answer
  kind_fits : word_at a 3 ≤ 3 → answer_fits a ≡ true
  kind_fits h = answer-fits a (record { long = ((taken_in_c.reporting f₁ f₂ a n t l 1 t' l' r).taken.0 refl).answer; kind = h })

  text-given : word_at a 3 ≤ 3 → report_text f₁ f₂ a n ≡ report_of f₁ f₂ (answer_from a) n
  unfolding report_text
  text-given h = rw (kind_fits h)

  empty : report_text f₁ f₂ a n ≡ [] → NoText t t' l'
  empty e =
      record {
        text = right-left _ _ t _ r.text laid ∙ ap (λ u. u ++ drop (length u) t) e;
        count = right-left _ _ l _ r.out laid ∙ ap (λ (u : List ℕ). length u ∷ []) e;
      }

  verdict-given : (word_at a 3 ≡ 2) ⊎ (word_at a 3 ≡ 3) → IsVerdict (answer_from a)
  verdict-given (inl e) = inl (kind-given a kind_2 e)
  verdict-given (inr e) = inr (kind-given a kind_3 e)

  verdict-most : (word_at a 3 ≡ 2) ⊎ (word_at a 3 ≡ 3) → word_at a 3 ≤ 3
  verdict-most (inl e) = omega arith
  verdict-most (inr e) = omega arith

  no_kind : ¬ (word_at a 3 ≡ 0) → ¬ (word_at a 3 ≡ 2) → ¬ (word_at a 3 ≡ 3) → report_text f₁ f₂ a n ≡ []
  unfolding report_text
  no_kind x y z =
      ⊎_elim
      (λ (e : answer_fits a ≡ true).
      rw e (report_spent f₁ f₂ (answer_from a) n (kind-given a kind_1 (omega (arith, (answer-told a e).kind, x, y, z)))))
      (λ (e : answer_fits a ≡ false). rw e)
      (true_or_false (answer_fits a))

pub refused_text_in_c : RefusedTextInC
unfolding answer_from
refused_text_in_c f₁ f₂ a n t l t' l' r e =
    stands f₁ f₂ a n t l t' l' r
    (rw (text-given f₁ f₂ a n t l t' l' r (omega arith)) (refused_text f₁ f₂ (answer_from a) n (kind-given a kind_0 e)))

-- the start of a start
-- what the words of a slice give to d inputs, of which the first n are taken
front :
    (z : Sizes) (n : ℕ) (l : List ℕ) → z.d ≤ length z.widths → z.d ≤ length (take n l) → vector_of z (take n l) ≡ vector_of z (take z.d l)
front z n l known h =
    sym (values-take (formats_of z) (take n l))
    ∙ ap (λ d. vector_of z (take d (take n l))) (length_formats z known)
    ∙ ap (vector_of z) (sym (take-append-le z.d (take n l) (drop n l) h) ∙ ap (take z.d) (take-append-drop n l))

pub verdict_text_in_c : VerdictTextInC
unfolding answer_from
verdict_text_in_c f₁ f₂ a n t l t' l' r o v =
    let s = shown_as_is f₁ f₂ o (answer_from a) n (verdict-given f₁ f₂ a n t l t' l' r v) in
    let long : length a ≡ answer_length = ((taken_in_c.reporting f₁ f₂ a n t l 1 t' l' r).taken.0 refl).answer in
    stands f₁ f₂ a n t l t' l' r
    (rw (text-given f₁ f₂ a n t l t' l' r (verdict-most f₁ f₂ a n t l t' l' r v))
    (record {
      verdict = s.verdict;
      lines = s.lines;
      equivalent = λ e. s.equivalent (kind-given a kind_2 e);
      differs = λ e.
          s.differs (kind-given a kind_3 e)
          ∙ ap (λ x. differ_words x (word_at a at_output₁) (word_at a at_output₂)) (front (sizes_of f₁) max_inputs (drop at_vector a) (omega (arith, length-widths f₁, (comparable f₁ f₂ (pair-accepted f₁ f₂ o)).sound₁.inputs_high)) (rw (length-take, length-drop) (omega (arith, long, (comparable f₁ f₂ (pair-accepted f₁ f₂ o)).sound₁.inputs_high))));
    }))

pub no_text_in_c : NoTextInC
no_text_in_c =
    record {
      kinds = λ f₁ f₂ a n t l t' l' r x y z. empty f₁ f₂ a n t l t' l' r (no_kind f₁ f₂ a n t l t' l' r x y z);
      unopened = λ f₁ f₂ a n t l t' l' r o v.
          empty f₁ f₂ a n t l t' l' r
          (text-given f₁ f₂ a n t l t' l' r (verdict-most f₁ f₂ a n t l t' l' r v)
          ∙ no_text.unopened f₁ f₂ o (answer_from a) n (verdict-given f₁ f₂ a n t l t' l' r v));
    }
