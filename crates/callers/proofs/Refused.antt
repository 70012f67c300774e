-- Demand 1 for a caller in C. The result tells whether the layout was right; where it was, the number word tells whether the call was
-- refused, and a refused call of the library leaves what it was lent. The session words of a refused continue call are read and written
-- again, which gives the same words. Assumes nothing.
use mathlib.Core.Bool.{Bool, true, false, and-eq-true_iff}
use mathlib.Core.List.{List, [], ◌∷◌, ◌++◌}
use mathlib.Core.Logic.{inl, inr}
use mathlib.Core.Path.{◌≡◌, refl, sym, ◌∙◌, ap}
use Prim.Native.Nat.{ℕ, ◌-◌}
use native.Mathlib.Omega.{arith}
use lib.Dec.{eqb}
use lib.ListN.{length, replicate}
use borrow.Author.Tests.{ne_eqb}
use Rattle.evaluate.specs.Evaluate.{refusal_at, evaluated_at, evaluated_scratch}
use Rattle.file.specs.Check.{refusal_of}
use Rattle.file_calls.specs.FileCalls.{EvaluateCall, operations_length, operation_words, evaluate_length, evaluate_words}
use Rattle.grid_calls.specs.GridCalls.{bound_length, bound_words, grid_words}
use Rattle.layouts.specs.AnswerWords.{refusal_words, kind_word, answer_words}
use Rattle.layouts.specs.Layout.{has, returned, leaves}
use Rattle.layouts.specs.Lengths.{word_at, at_number, session_length, refusal_length, grid_length, answer_length}
use Rattle.layouts.specs.SessionWords.{mark_word, session_words, session_fits, session_from}
use Rattle.layouts.specs.SizeWords.{size_words, sizes_from}
use Rattle.layouts.proofs.Sessions.{sessions_as_words}
use Rattle.report_calls.specs.ReportCalls.{report_fits}
use Rattle.session_calls.specs.SessionCalls.{open_fits, OpenCall, continue_fits, continuing, ContinueCall}
use Rattle.sessions.specs.Calls.{Call, answer_to}
use Rattle.sessions.specs.Session.{no_session, opened, continue_refusal, refused_answer, continued}
use Rattle.sessions.specs.declared.Continued.{Continued}
use Rattle.sessions.specs.declared.Session.{Session}
use Rattle.sessions.proofs.Cases.{scratch-refused}
use Rattle.sessions.proofs.Step.{kept, answer-refusal}
use Rattle.sizes.specs.Sizes.{accepts, is_refusal}
use Rattle.sizes.specs.declared.Refusal.{Refusal}
use Rattle.table_calls.specs.TableCalls.{cells_fit, TableCall, DifferenceCall, SumCall}
use Rattle.cells.specs.Cells.{cells_refusal}
use Rattle.file_tables.specs.FileTables.{table_refusal, made_table, table_scratch}
use Rattle.tables.specs.Tables.{differenced, summed_up}
use Rattle.callers.specs.RefusedInC.{Refused, NotAccepted, ContinueRefused, OpenRefused, EvaluateRefused, TableRefused, DifferenceRefused, SumRefused, RefusedInC}

-- what the result tells of the layout
pub wrong-told : (r : ℕ) (b : Bool) → r ≡ returned b → r ≡ 0 → b ≡ false
wrong-told r true e z = absurd (omega arith)
wrong-told r false e z = refl

pub right-told : (r : ℕ) (b : Bool) → r ≡ returned b → r ≡ 1 → b ≡ true
right-told r true e z = refl
right-told r false e z = absurd (omega arith)

-- a slice where the layout is wrong, and where it is right
module _ (b : Bool) (after before slice : List ℕ) (e : slice ≡ leaves b after before) where
  pub wrong-left : b ≡ false → slice ≡ before
  wrong-left q = e ∙ rw q

  pub right-left : b ≡ true → slice ≡ after
  right-left q = e ∙ rw q

-- the number word of a refusal's words
module _ (o : List ℕ) (n : Refusal) (rest : List ℕ) (e : o ≡ refusal_words n ++ rest) (x : ¬ (word_at o at_number ≡ 0)) where
  not-accepted : eqb n.number 0 ≡ false
  not-accepted =
      let q : word_at o at_number ≡ n.number = ap (λ l. word_at l at_number) e in
      ne_eqb n.number 0 (λ z. x (q ∙ z))

  refused-number : is_refusal n ≡ true
  refused-number = rw not-accepted

module _ (f₁ f₂ : List ℕ) (B : ℕ) (w s a : List ℕ) (r : ℕ) (w' s' a' : List ℕ) (h : ContinueCall f₁ f₂ B w s a r w' s' a') where
  abbrev σ : Session
  σ = session_from w

  abbrev k : Call
  k = record { file₁ = f₁; file₂ = f₂; budget = B; scratch = length s }

  abbrev R : Refusal
  R = continue_refusal f₁ f₂ σ B (length s)

  continue_wrong : r ≡ 0 → continue_fits w a ≡ false
  continue_wrong e = wrong-told r (continue_fits w a) h.result e

  continue_laid : Refused r a' → continue_fits w a ≡ true
  continue_laid q = right-told r (continue_fits w a) h.result q.laid

  answer-said : Refused r a' → a' ≡ answer_words (continuing f₁ f₂ w B s).answer
  answer-said q = h.answer ∙ rw (continue_laid q)

  session-left : Refused r a' → w' ≡ session_words (continuing f₁ f₂ w B s).session
  session-left q = h.session ∙ rw (continue_laid q)

  session-laid : Refused r a' → session_fits w ≡ true
  unfolding continue_fits
  session-laid q = ((and-eq-true_iff (has answer_length a) (session_fits w)).0 (continue_laid q)).1

  continue_refused : Refused r a' → is_refusal R ≡ true
  unfolding answer_to answer_words
  continue_refused q =
      sym (answer-refusal σ k)
      ∙ refused-number a' (continuing f₁ f₂ w B s).answer.refusal _ (answer-said q) q.number

  as_kept : Refused r a' → continued f₁ f₂ σ B (length s) ≡ record { session = σ; answer = refused_answer R }
  unfolding answer_to
  as_kept q = kept σ k (continue_refused q)

  continue_session : NotAccepted r a' → w' ≡ w
  continue_session (inl e) = h.session ∙ rw (continue_wrong e)
  continue_session (inr q) =
      session-left q
      ∙ ap (λ (c : Continued). session_words c.session) (as_kept q)
      ∙ sessions_as_words.restored w (session-laid q)

  continue_scratch : NotAccepted r a' → s' ≡ s
  continue_scratch (inl e) = h.scratch ∙ rw (continue_wrong e)
  continue_scratch (inr q) =
      h.scratch ∙ rw (continue_laid q) (sym (scratch-refused f₁ f₂ σ B s (continue_refused q)))

  refused-words : answer_words (refused_answer R) ≡ refusal_words R ++ replicate (answer_length - refusal_length) 0
  unfolding answer_words refused_answer kind_word
  refused-words = refl

  pub continue_kept : ContinueRefused f₁ f₂ B w s a r w' s' a'
  continue_kept =
      record {
        wrong = λ e. h.answer ∙ rw (continue_wrong e);
        session = continue_session;
        scratch = continue_scratch;
        answer = λ q.
            answer-said q ∙ ap (λ (c : Continued). answer_words c.answer) (as_kept q) ∙ refused-words;
      }

module _ (f₁ f₂ w o : List ℕ) (r : ℕ) (w' o' : List ℕ) (h : OpenCall f₁ f₂ w o r w' o') where
  open_laid : Refused r o' → open_fits w o ≡ true
  open_laid q = right-told r (open_fits w o) h.result q.laid

  open_wrong : r ≡ 0 → open_fits w o ≡ false
  open_wrong e = wrong-told r (open_fits w o) h.result e

  open_said : Refused r o' → o' ≡ refusal_words (opened f₁ f₂).refusal
  open_said q = h.out ∙ rw (open_laid q)

  open_refused : Refused r o' → is_refusal (opened f₁ f₂).refusal ≡ true
  open_refused q = refused-number o' (opened f₁ f₂).refusal [] (open_said q) q.number

  no_session_lem : Refused r o' → (opened f₁ f₂).session ≡ no_session
  unfolding opened
  no_session_lem q = rw (open_refused q)

  zero-words : session_words no_session ≡ replicate session_length 0
  unfolding session_words size_words no_session mark_word
  zero-words = refl

  pub open_kept : OpenRefused w o r w' o'
  open_kept =
      record {
        wrong = λ e. h.out ∙ rw (open_wrong e);
        session = λ e. h.session ∙ rw (open_wrong e);
        zeros = λ q. h.session ∙ rw (open_laid q) (ap session_words (no_session_lem q) ∙ zero-words);
      }

module _ (f x s o : List ℕ) (r : ℕ) (s' o' : List ℕ) (h : EvaluateCall f x s o r s' o') where
  evaluate_laid : Refused r o' → has evaluate_length o ≡ true
  evaluate_laid q = right-told r (has evaluate_length o) h.result q.laid

  evaluate_wrong : r ≡ 0 → has evaluate_length o ≡ false
  evaluate_wrong e = wrong-told r (has evaluate_length o) h.result e

  evaluate_said : Refused r o' → o' ≡ evaluate_words (evaluated_at f x (length s))
  evaluate_said q = h.out ∙ rw (evaluate_laid q)

  evaluate_refused : Refused r o' → accepts (refusal_at f x (length s)) ≡ false
  unfolding evaluated_at
  evaluate_refused q =
      not-accepted o' (refusal_at f x (length s)) _ (evaluate_said q) q.number

  scratch-kept : Refused r o' → evaluated_scratch f x s ≡ s
  unfolding evaluated_scratch
  scratch-kept q = rw (evaluate_refused q)

  no_output : Refused r o' → evaluate_words (evaluated_at f x (length s)) ≡ refusal_words (refusal_at f x (length s)) ++ (0 ∷ [])
  unfolding evaluated_at
  no_output q = rw (evaluate_refused q)

  evaluate_scratch : NotAccepted r o' → s' ≡ s
  evaluate_scratch (inl e) = h.scratch ∙ rw (evaluate_wrong e)
  evaluate_scratch (inr q) = h.scratch ∙ rw (evaluate_laid q) (scratch-kept q)

  pub evaluate_kept : EvaluateRefused f x s o r s' o'
  evaluate_kept =
      record {
        wrong = λ e. h.out ∙ rw (evaluate_wrong e);
        scratch = evaluate_scratch;
        out = λ q. evaluate_said q ∙ no_output q;
      }

module _ (f s t o : List ℕ) (r : ℕ) (s' t' o' : List ℕ) (h : TableCall f s t o r s' t' o') where
  table-laid : Refused r o' → has refusal_length o ≡ true
  table-laid q = right-told r (has refusal_length o) h.result q.laid

  table-wrong : r ≡ 0 → has refusal_length o ≡ false
  table-wrong e = wrong-told r (has refusal_length o) h.result e

  table-refused : Refused r o' → eqb (table_refusal f (length s) (length t)).number 0 ≡ false
  table-refused q =
      not-accepted o' (table_refusal f (length s) (length t)) [] (h.out ∙ rw (table-laid q)) q.number

  table-table : NotAccepted r o' → t' ≡ t
  unfolding made_table
  table-table (inl e) = h.table ∙ rw (table-wrong e)
  table-table (inr q) = h.table ∙ rw (table-laid q, table-refused q)

  table-scratch : NotAccepted r o' → s' ≡ s
  unfolding table_scratch
  table-scratch (inl e) = h.scratch ∙ rw (table-wrong e)
  table-scratch (inr q) = h.scratch ∙ rw (table-laid q, table-refused q)

  pub table_kept : TableRefused s t o r s' t' o'
  table_kept =
      record {
        wrong = λ e. h.out ∙ rw (table-wrong e);
        scratch = table-scratch;
        table = table-table;
      }

-- of the two calls that read the slice x and write the slice y: the answer tells whether the cells were refused
module _ (z x y o : List ℕ) (r : ℕ) (y' o' : List ℕ) where
  cells-refused :
      cells_fit z o ≡ true → o' ≡ leaves (cells_fit z o) (refusal_words (cells_refusal (sizes_from z) x (length y))) o →
      Refused r o' → eqb (cells_refusal (sizes_from z) x (length y)).number 0 ≡ false
  cells-refused l e q = not-accepted o' (cells_refusal (sizes_from z) x (length y)) [] (e ∙ rw l) q.number

  module _ (e : r ≡ returned (cells_fit z o)) where
    cells-wrong : r ≡ 0 → cells_fit z o ≡ false
    cells-wrong q = wrong-told r (cells_fit z o) e q

    cells-laid : Refused r o' → cells_fit z o ≡ true
    cells-laid q = right-told r (cells_fit z o) e q.laid

  module _ (h : DifferenceCall z x y o r y' o') where
    difference-table : NotAccepted r o' → y' ≡ y
    unfolding differenced
    difference-table (inl e) = h.written ∙ rw (cells-wrong h.result e)
    difference-table (inr q) =
        let l = cells-laid h.result q in
        h.written ∙ rw (l, cells-refused l h.out q)

    pub difference-kept : DifferenceRefused y o r y' o'
    difference-kept = record { wrong = λ e. h.out ∙ rw (cells-wrong h.result e); table = difference-table }

  module _ (h : SumCall z x y o r y' o') where
    sum-outputs : NotAccepted r o' → y' ≡ y
    unfolding summed_up
    sum-outputs (inl e) = h.written ∙ rw (cells-wrong h.result e)
    sum-outputs (inr q) =
        let l = cells-laid h.result q in
        h.written ∙ rw (l, cells-refused l h.out q)

    pub sum_kept : SumRefused y o r y' o'
    sum_kept = record { wrong = λ e. h.out ∙ rw (cells-wrong h.result e); outputs = sum-outputs }

-- of a call with an answer slice alone
out-kept : (n : ℕ) (o : List ℕ) (r : ℕ) (o' after : List ℕ) → r ≡ returned (has n o) → o' ≡ leaves (has n o) after o → r ≡ 0 → o' ≡ o
out-kept n o r o' after l e q = e ∙ rw (wrong-told r (has n o) l q)

pub refused_in_c : RefusedInC
refused_in_c =
    record {
      continuing = continue_kept;
      opening = open_kept;
      evaluating = evaluate_kept;
      making = table_kept;
      differencing = difference-kept;
      summing = sum_kept;
      checking = λ f o r o' h. out-kept refusal_length o r o' (refusal_words (refusal_of 1 f)) h.result h.out;
      operations = λ f o r o' h. out-kept operations_length o r o' (operation_words f) h.result h.out;
      bound = λ m o r o' h. out-kept bound_length o r o' (bound_words m) h.result h.out;
      grid = λ f o r o' h. out-kept grid_length o r o' (grid_words f) h.result h.out;
      reporting = λ f₁ f₂ a n t o r t' o' h.
          record {
            wrong = λ e. wrong-left _ _ o o' h.out (wrong-told r (report_fits a t o) h.result e);
            text = λ e. wrong-left _ _ t t' h.text (wrong-told r (report_fits a t o) h.result e);
          };
    }
