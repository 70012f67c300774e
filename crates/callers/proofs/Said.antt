-- The refusal words of a C call that returned 1: they are the words of the library's refusal, and a refusal with the number 0 shows no file and
-- no step, since each definition picks one of those that show none, or what a file is refused by, whose number is then not 0.
use mathlib.Core.Bool.{not}
use mathlib.Core.List.{List, [], ◌∷◌, ◌++◌}
use mathlib.Core.Path.{◌≡◌, refl, sym, ◌∙◌, ap}
use Prim.Native.Nat.{ℕ}
use native.Mathlib.Decide.{ℕ_discrete}
use lib.Dec.{eqb}
use lib.ListN.{length}
use borrow.Author.Tests.{eq-eqb, ne_eqb}
use Rattle.evaluate.specs.Evaluate.{short_scratch, bad_vector, refusal_at, evaluated_at}
use Rattle.figures.specs.Figures.{figures_of}
use Rattle.figures.specs.Figures.{Figures}
use Rattle.file.specs.Check.{file_number, refusal_of}
use Rattle.fields.specs.File.{sizes_of, step_count}
use Rattle.grid.specs.Grid.{grid_size, grid_of}
use Rattle.grid_calls.specs.GridCalls.{bound_words, grid_words, no_grid, grid_as_words}
use Rattle.grid_calls.proofs.Answered.{grid-refused, grid-accepted}
use Rattle.layouts.specs.AnswerWords.{refusal_words, kind_word, answer_words}
use Rattle.layouts.specs.Layout.{has}
use Rattle.layouts.specs.Lengths.{word_at, grid_length}
use Rattle.layouts.specs.SessionWords.{session_from}
use Rattle.layouts.specs.SizeWords.{sizes_from}
use Rattle.ranges.proofs.Search.{cond_each}
use Rattle.session_calls.specs.SessionCalls.{open_fits, continue_fits, continuing, ContinueCall}
use Rattle.sessions.specs.Session.{same_sizes, pair_refusal, opened, continue_refusal}
use Rattle.sessions.specs.declared.Answer.{Answer}
use Rattle.sessions.specs.declared.Session.{Session}
use Rattle.sessions.proofs.Carried.{passed-accepted, carried}
use Rattle.sessions.proofs.Cases.{passed}
use Rattle.sizes.specs.Sizes.{output_length, bad_output, bad_inputs, bad_widths, refused_by, accepted, accepts, sizes_refusal}
use Rattle.sizes.specs.declared.Refusal.{Refusal}
use Rattle.sizes.specs.declared.Sizes.{Sizes}
use Rattle.table_calls.specs.TableCalls.{cells_fit}
use Rattle.cells.specs.Cells.{short_slice, bad_cells, cells_refusal}
use Rattle.file_tables.specs.FileTables.{table_refusal}
use Rattle.callers.specs.SaidInC.{Says, SaidInC}
use Rattle.callers.proofs.Accepted.{wrote}

-- a refusal with the number 0 is acceptance
record Plain (q : Refusal) : Type 0 where
  passes : q.number ≡ 0 → q ≡ accepted

plain_by : (n : ℕ) → Plain (refused_by n)
plain_by n = record { passes = λ e. ap refused_by e }

plain-file : (w : ℕ) (s : List ℕ) → Plain (refusal_of w s)
unfolding refusal_of
plain-file w s =
    elim (ℕ_discrete (file_number s) 0) [
      | yes e ↦ rw (eq-eqb (file_number s) 0 e) (record { passes = λ _. refl })
      | no n ↦ rw (ne_eqb (file_number s) 0 n) (record { passes = λ e. absurd (n e) })
    ]

plain_at : (s x : List ℕ) (len : ℕ) → Plain (refusal_at s x len)
unfolding refusal_at
plain_at s x len =
    cond_each Plain (eqb (file_number s) 0)
    (cond_each Plain (short_scratch (step_count s) len) (plain_by 12)
    (cond_each Plain (bad_vector (sizes_of s) x) (plain_by 14) (plain_by 0)))
    (plain-file 1 s)

plain-table : (s : List ℕ) (room len : ℕ) → Plain (table_refusal s room len)
unfolding table_refusal
plain-table s room len =
    cond_each Plain (eqb (file_number s) 0)
    (cond_each Plain (short_scratch (step_count s) room) (plain_by 12)
    (cond_each Plain (short_slice (grid_size (sizes_of s)) len) (plain_by 13) (plain_by 0)))
    (plain-file 1 s)

plain-sizes : (z : Sizes) → Plain (sizes_refusal z)
unfolding sizes_refusal
plain-sizes z =
    cond_each Plain (bad_output z) (plain_by 2)
    (cond_each Plain (bad_inputs z) (plain_by 3)
    (cond_each Plain (bad_widths z) (plain_by 5) (plain_by 0)))

plain_cells : (z : Sizes) (cells : List ℕ) (len : ℕ) → Plain (cells_refusal z cells len)
unfolding cells_refusal
plain_cells z cells len =
    cond_each Plain (accepts (sizes_refusal z))
    (cond_each Plain (bad_cells z.m (grid_size z) cells len) (plain_by 13) (plain_by 0))
    (plain-sizes z)

plain-pair : (s₁ s₂ : List ℕ) → Plain (pair_refusal s₁ s₂)
unfolding pair_refusal
plain-pair s₁ s₂ =
    cond_each Plain (not (eqb (file_number s₁) 0)) (plain-file 1 s₁)
    (cond_each Plain (not (eqb (file_number s₂) 0)) (plain-file 2 s₂)
    (cond_each Plain (not (same_sizes (sizes_of s₁) (sizes_of s₂))) (plain_by 9) (plain_by 0)))

plain_continue : (s₁ s₂ : List ℕ) (σ : Session) (B len : ℕ) → Plain (continue_refusal s₁ s₂ σ B len)
plain_continue s₁ s₂ σ B len = record { passes = λ e. passed-accepted s₁ s₂ σ B len (passed s₁ s₂ σ B len (ap not (eq-eqb _ 0 e))) }

plain-opened : (s₁ s₂ : List ℕ) → Plain (opened s₁ s₂).refusal
unfolding opened
plain-opened s₁ s₂ = plain-pair s₁ s₂

plain-bound : (m : ℕ) → Plain (figures_of m).refusal
unfolding figures_of
plain-bound m = cond_each (λ (f : Figures). Plain f.refusal) (output_length m) (plain_by 0) (plain_by 2)

-- words that begin with a refusal's say it
says : (q : Refusal) (o rest : List ℕ) → o ≡ refusal_words q ++ rest → Plain q → Says q o
says q o rest e p =
    let n : word_at o 0 ≡ q.number = ap (λ l. word_at l 0) e in
    let f : word_at o 1 ≡ q.file = ap (λ l. word_at l 1) e in
    let s : word_at o 2 ≡ q.step = ap (λ l. word_at l 2) e in
    record {
      number = n;
      file = f;
      step = s;
      no_file = λ z. f ∙ ap (λ (r : Refusal). r.file) (p.passes (sym n ∙ z));
      no_step = λ z. s ∙ ap (λ (r : Refusal). r.step) (p.passes (sym n ∙ z));
    }

-- the words of a grid, accepted or refused
grid-says : (f o : List ℕ) → o ≡ grid_words f → Says (refusal_of 1 f) o
unfolding refusal_of
grid-says f o e =
    elim (ℕ_discrete (file_number f) 0) [
      | yes z ↦ says (refusal_of 1 f) o (grid_as_words (grid_of (sizes_of f))) (e ∙ grid-accepted f z ∙ rw (eq-eqb (file_number f) 0 z)) (plain-file 1 f)
      | no n ↦ says (refusal_of 1 f) o no_grid (e ∙ grid-refused f n) (plain-file 1 f)
    ]

-- the words of an answer after its refusal
abbrev after : Answer → List ℕ
after a = kind_word a.kind ∷ a.run ∷ (a.vector ++ (a.output1 ∷ a.output2 ∷ []))

answer_begins : (a : Answer) → answer_words a ≡ refusal_words a.refusal ++ after a
unfolding answer_words
answer_begins a = refl

continue_says :
    (f₁ f₂ : List ℕ) (B : ℕ) (w s a w' s' a' : List ℕ) → ContinueCall f₁ f₂ B w s a 1 w' s' a' →
    Says (continue_refusal f₁ f₂ (session_from w) B (length s)) a'
continue_says f₁ f₂ B w s a w' s' a' h =
    let answer = (continuing f₁ f₂ w B s).answer in
    says (continue_refusal f₁ f₂ (session_from w) B (length s)) a' (after answer)
    (wrote (continue_fits w a) (answer_words answer) a a' h.result h.answer
    ∙ answer_begins answer
    ∙ ap (λ (r : Refusal). refusal_words r ++ after answer) (carried f₁ f₂ (session_from w) B (length s)))
    (plain_continue f₁ f₂ (session_from w) B (length s))

pub said_in_c : SaidInC
unfolding evaluated_at bound_words
said_in_c =
    record {
      checking = λ f o o' h. says (refusal_of 1 f) o' [] (wrote (has 3 o) _ o o' h.result h.out) (plain-file 1 f);
      bound = λ m o o' h.
          says (figures_of m).refusal o' ((figures_of m).bound ∷ (figures_of m).quotients)
          (wrote (has 10 o) _ o o' h.result h.out) (plain-bound m);
      grid = λ f o o' h. grid-says f o' (wrote (has grid_length o) _ o o' h.result h.out);
      evaluating = λ f x s o s' o' h.
          says (refusal_at f x (length s)) o' _ (wrote (has 4 o) _ o o' h.result h.out) (plain_at f x (length s));
      making = λ f s t o s' t' o' h.
          says (table_refusal f (length s) (length t)) o' [] (wrote (has 3 o) _ o o' h.result h.out) (plain-table f _ _);
      differencing = λ z y t o t' o' h.
          says (cells_refusal (sizes_from z) y (length t)) o' [] (wrote (cells_fit z o) _ o o' h.result h.out) (plain_cells _ y _);
      summing = λ z t y o y' o' h.
          says (cells_refusal (sizes_from z) t (length y)) o' [] (wrote (cells_fit z o) _ o o' h.result h.out) (plain_cells _ t _);
      opening = λ f₁ f₂ w o w' o' h.
          says (opened f₁ f₂).refusal o' [] (wrote (open_fits w o) _ o o' h.result h.out) (plain-opened f₁ f₂);
      continuing = continue_says;
    }
