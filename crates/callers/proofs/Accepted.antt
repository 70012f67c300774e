-- What a call that returned 1 answers, for a caller in C. The result tells that the layout was right, so that the answer slice holds the
-- library's answer as words; each law is then read off the words. Demand 2 is the library's, of the slices that the calls wrote. Assumes nothing.
use mathlib.Core.Bool.{Bool, false}
use mathlib.Core.List.{List, [], ◌∷◌, ◌++◌, append_assoc}
use mathlib.Core.Path.{◌≡◌, refl, sym, ◌∙◌, ap, subst}
use Prim.Native.Nat.{ℕ, ◌+◌, ◌-◌, ◌^◌, ◌≤◌, ◌<◌, min}
use native.Mathlib.Decide.{ℕ_discrete, dec_le}
use native.Mathlib.Omega.{arith}
use lib.ListN.{length, get_or, take, drop, replicate, get_or-append, get_or-eq_default}
use lib.Seq.{take_at, get_or_at, get_or-drop}
use borrow.Author.Tests.{eq-eqb, ne_eqb}
use Rattle.bound.specs.Axes.{axis}
use Rattle.bound.specs.Bound.{IsBound, bound}
use Rattle.bound.specs.Quotients.{halvings, Exponents}
use Rattle.bound.proofs.Algorithm.{least_bound}
use Rattle.bound.proofs.Table.{axis_by_least}
use Rattle.bound.proofs.Quotients.{bound_exponents}
use Rattle.evaluate.specs.Evaluate.{refusal_at, evaluated_at, evaluated_scratch}
use Rattle.evaluate.specs.Evaluate.{Evaluated as Answer}
use Rattle.evaluate.proofs.Answers.{answer-accepted}
use Rattle.evaluate.proofs.Taken.{evaluate_exactly, full_vector_width}
use Rattle.figures.specs.Figures.{figures_of, bound_answered, bound_refused}
use Rattle.figures.specs.Figures.{Figures}
use Rattle.figures.proofs.Exactly.{figures_inside, figures_outside}
use Rattle.file.specs.Accepted.{Accepted}
use Rattle.file.specs.Check.{file_number, refusal_of}
use Rattle.fields.specs.File.{sizes_of, head_of, step_count}
use Rattle.fields.proofs.Heads.{length-widths}
use Rattle.file.proofs.Accepted.{accepted as file-accepted}
use Rattle.file.proofs.Number.{refusal-number}
use Rattle.file.proofs.Sound.{number_0}
use Rattle.file_calls.specs.FileCalls.{CheckCall, OperationsCall, EvaluateCall, operation_words, evaluate_words}
use Rattle.grid.specs.Grid.{axes_of, grid_size, grid_of}
use Rattle.grid.proofs.Grids.{length-axes}
use Rattle.grid_calls.specs.GridCalls.{BoundCall, GridCall, figure_words, bound_words, grid_words}
use Rattle.grid_calls.proofs.Answered.{grid-refused, grid-accepted}
use Rattle.integers.specs.Exponent.{IsExponent}
use Rattle.integers.specs.Modulo.{factorial}
use Rattle.layouts.specs.AnswerWords.{refusal_words, answer_words}
use Rattle.layouts.specs.Layout.{has, returned, leaves}
use Rattle.layouts.specs.Lengths.{word_at, at_axes, at_grid_size, grid_length}
use Rattle.layouts.specs.SessionWords.{session_from}
use Rattle.layouts.specs.SizeWords.{size_words, sizes_from}
use Rattle.layouts.proofs.Sessions.{file-bytes}
use Rattle.layouts.proofs.Sizes.{sizes_as_words}
use Rattle.lists.specs.Lists.{sum_of}
use Rattle.lists.proofs.Lists.{map-entry}
use Rattle.session_calls.specs.SessionCalls.{continue_fits, continuing, ContinueCall}
use Rattle.sessions.specs.Calls.{answer_to}
use Rattle.sessions.specs.Session.{continue_refusal}
use Rattle.sessions.proofs.Cases.{scratch-accepted as session-scratch}
use Rattle.sessions.proofs.Step.{answer-refusal}
use Rattle.sizes.specs.Padded.{padded}
use Rattle.sizes.specs.Sizes.{max_inputs, format_at, formats_of, accepted, is_refusal}
use Rattle.sizes.specs.declared.Refusal.{Refusal}
use Rattle.sizes.specs.declared.Sizes.{Sizes}
use Rattle.sizes.proofs.Formats.{length_formats, format_entry}
use Rattle.sizes.proofs.Judged.{number_of}
use Rattle.table_calls.specs.TableCalls.{cells_fit, TableCall, DifferenceCall, SumCall}
use Rattle.cells.specs.Cells.{cells_refusal}
use Rattle.cells.proofs.Answers.{cells-accepted, cells-taken}
use Rattle.demand2.specs.Demand2.{HoldsCells}
use Rattle.demand2.proofs.Demand2.{sum_of_made, difference_of_sum, sum_of_difference}
use Rattle.file_tables.specs.FileTables.{table_refusal, made_table, table_scratch}
use Rattle.file_tables.proofs.Answers.{made, table_0, table-accepted, scratch-accepted}
use Rattle.tables.specs.Tables.{differenced, summed_up}
use Rattle.sizes.proofs.Padded.{length-padded, padded-entry}
use Rattle.callers.specs.AcceptedInC.{Checked, Stretched, From1To64, Bounded, Gridded, Evaluated, Tabled, Continued, CellsWritten, DifferenceOfSumInC, SumOfDifferenceInC, AcceptedInC}
use Rattle.callers.proofs.Refused.{right-told, right-left}

-- what a call that returned 1 wrote
pub wrote : (b : Bool) (after before slice : List ℕ) → 1 ≡ returned b → slice ≡ leaves b after before → slice ≡ after
wrote b after before slice r e = right-left b after before slice e (right-told 1 b r refl)

-- the first word of a list
first : {w v : List ℕ} → w ≡ v → word_at w 0 ≡ word_at v 0
first e = ap (λ l. word_at l 0) e

module _ (f o o' : List ℕ) (h : CheckCall f o 1 o') where
  check_said : o' ≡ refusal_words (refusal_of 1 f)
  check_said = wrote (has 3 o) _ o o' h.result h.out

  checked-number : word_at o' 0 ≡ file_number f
  checked-number = first check_said ∙ refusal-number f 1

  checked : Checked f o'
  checked =
      record {
        number = checked-number;
        sound = (λ e. file-accepted f (sym checked-number ∙ e), λ a. checked-number ∙ number_0 f a);
      }

module _ (f o o' : List ℕ) (h : OperationsCall f o 1 o') where
  operations-said : o' ≡ operation_words f
  operations-said = wrote (has 2 o) _ o o' h.result h.out

  stretch_said : file_number f ≡ 0 → o' ≡ head_of f ∷ step_count f ∷ []
  unfolding operation_words
  stretch_said e = operations-said ∙ rw (eq-eqb (file_number f) 0 e)

  no_stretch : ¬ (file_number f ≡ 0) → o' ≡ 0 ∷ 0 ∷ []
  unfolding operation_words
  no_stretch n = operations-said ∙ rw (ne_eqb (file_number f) 0 n)

  stretched : Stretched f o'
  stretched =
      record {
        start = λ e. first (stretch_said e);
        count = λ e. ap (λ l. word_at l 1) (stretch_said e);
        none = no_stretch;
      }

module _ (m : ℕ) (o o' : List ℕ) (h : BoundCall m o 1 o') where
  bound-said : (f : Figures) → figures_of m ≡ f → o' ≡ figure_words f
  unfolding bound_words
  bound-said f e = wrote (has 10 o) _ o o' h.result h.out ∙ ap figure_words e

  inside : From1To64 m → o' ≡ 0 ∷ 0 ∷ 0 ∷ bound m ∷ halvings (bound m)
  inside r = bound-said (bound_answered m) (figures_inside m (r.low, r.high))

  outside : ¬ From1To64 m → o' ≡ 2 ∷ replicate 9 0
  outside n = bound-said bound_refused (figures_outside m (λ p. n (record { low = p.0; high = p.1 })))

  in_range : word_at o' 0 ≡ 0 → From1To64 m
  in_range z = elim (dec_le 1 m) [
    | yes low ↦ elim (dec_le m 64) [
      | yes high ↦ record { low = low; high = high }
      | no n ↦ absurd (omega (arith, z, first (outside (λ r. n r.high))))
    ]
    | no n ↦ absurd (omega (arith, z, first (outside (λ r. n r.low))))
  ]

  -- what holds of the bound and of its quotients holds of the words
  of_words : (P : ℕ → List ℕ → Type 0) → (From1To64 m → P (bound m) (halvings (bound m))) → word_at o' 0 ≡ 0 → P (word_at o' 3) (drop 4 o')
  of_words P p z =
      let r = in_range z in
      subst (λ l. P (word_at l 3) (drop 4 l)) (sym (inside r)) (p r)

  exponents : From1To64 m → Exponents m
  exponents r = bound_exponents m r.low r.high

  bounded : Bounded m o'
  bounded =
      record {
        range = (in_range, λ r. first (inside r));
        least = of_words (λ n q. IsBound m n) (λ r. least_bound m);
        quotients = of_words (λ n q. q ≡ halvings n) (λ r. refl);
        exponent = of_words (λ n q. IsExponent (factorial n) (sum_of q)) (λ r. (exponents r).reached);
        enough = of_words (λ n q. m ≤ sum_of q) (λ r. (exponents r).enough);
        before = of_words (λ n q. IsExponent (factorial (n - 1)) (sum_of (halvings (n - 1)))) (λ r. (exponents r).before);
        short = of_words (λ n q. sum_of (halvings (n - 1)) < m) (λ r. (exponents r).short);
        outside = outside;
      }

module _ (f o o' : List ℕ) (h : GridCall f o 1 o') where
  grid-said : o' ≡ grid_words f
  grid-said = wrote (has grid_length o) _ o o' h.result h.out

  grid-number : word_at o' 0 ≡ file_number f
  grid-number =
      elim (ℕ_discrete (file_number f) 0) [
        | yes e ↦ first (grid-said ∙ grid-accepted f e) ∙ sym e
        | no n ↦ first (grid-said ∙ grid-refused f n) ∙ refusal-number f 1
      ]

  no_grid_lem : ¬ (word_at o' 0 ≡ 0) → drop at_axes o' ≡ replicate (max_inputs + 1) 0
  no_grid_lem n = ap (drop at_axes) (grid-said ∙ grid-refused f (λ e. n (grid-number ∙ e)))

  module _ (zero : word_at o' 0 ≡ 0) where
    abbrev us : List ℕ
    us = axes_of (sizes_of f)

    sound : Accepted f
    sound = file-accepted f (sym grid-number ∙ zero)

    grid-words : o' ≡ 0 ∷ 0 ∷ 0 ∷ (padded us ++ (grid_size (sizes_of f) ∷ []))
    unfolding grid_of
    grid-words = grid-said ∙ grid-accepted f (sym grid-number ∙ zero)

    axes-count : length us ≡ (sizes_of f).d
    axes-count = length-axes (sizes_of f) (length-widths f) sound.inputs_high

    length-words : length (padded us) ≡ max_inputs
    length-words = length-padded us (omega (arith, axes-count, sound.inputs_high))

    axes-first : take (sizes_of f).d (drop at_axes o') ≡ us
    axes-first =
        ap (λ l. take (sizes_of f).d (drop at_axes l)) grid-words
        ∙ ap (take (sizes_of f).d) (append_assoc us _ (grid_size (sizes_of f) ∷ []))
        ∙ take_at us _ (sizes_of f).d axes-count

    word-entry : (i : ℕ) → i < max_inputs → word_at o' (at_axes + i) ≡ get_or us i 0
    word-entry i high =
        sym (get_or-drop at_axes o' i 0)
        ∙ ap (λ l. get_or (drop at_axes l) i 0) grid-words
        ∙ get_or-append (padded us) (grid_size (sizes_of f) ∷ []) 0 i (omega (arith, length-words))
        ∙ padded-entry us i

    known : (sizes_of f).d ≤ length (sizes_of f).widths
    known = omega (arith, length-widths f, sound.inputs_high)

    axes-smaller :
        (i : ℕ) → i < (sizes_of f).d → (l : ℕ) → IsBound (sizes_of f).m l → word_at o' (at_axes + i) ≡ min (2 ^ (format_at (sizes_of f) i).length) l
    unfolding axes_of
    axes-smaller i h l b =
        let z = sizes_of f in
        word-entry i (omega (arith, sound.inputs_high))
        ∙ map-entry (axis z.m) (formats_of z) i (format_at z i) 0 (omega (arith, h, length_formats z known))
        ∙ ap (axis z.m) (format_entry z known i (format_at z i) h)
        ∙ axis_by_least z.m (format_at z i) l b

    others-zero : (i : ℕ) → (sizes_of f).d ≤ i → i < max_inputs → word_at o' (at_axes + i) ≡ 0
    others-zero i low high = word-entry i high ∙ get_or-eq_default us 0 (omega (arith, axes-count))

    size-last : word_at o' at_grid_size ≡ grid_size (sizes_of f)
    size-last = ap (λ l. word_at l at_grid_size) grid-words ∙ get_or_at (padded us) (grid_size (sizes_of f)) [] 0 max_inputs length-words

  gridded : Gridded f o'
  gridded =
      record { number = grid-number; axes = axes-first; smaller = axes-smaller; others = others-zero; size = size-last; none = no_grid_lem }

module _ (f x s o s' o' : List ℕ) (h : EvaluateCall f x s o 1 s' o') (zero : word_at o' 0 ≡ 0) where
  evaluate_said : o' ≡ evaluate_words (evaluated_at f x (length s))
  evaluate_said = wrote (has 4 o) _ o o' h.result h.out

  evaluate_number : (refusal_at f x (length s)).number ≡ 0
  unfolding evaluated_at
  evaluate_number = sym (first evaluate_said) ∙ zero

  evaluated : Evaluated f x s s' o'
  evaluated =
      let p = answer-accepted f x s evaluate_number in
      let t = (evaluate_exactly f x (length s)).0 evaluate_number in
      let known : (sizes_of f).d ≤ length (sizes_of f).widths = omega (arith, length-widths f, t.file.inputs_high) in
      record {
        count = t.vector.count;
        vector = (full_vector_width (sizes_of f) x known t.vector.count).0 t.vector;
        output = ap (λ l. word_at l 3) evaluate_said ∙ ap (λ (a : Answer). a.output) (sym p.0);
        scratch = wrote (has 4 o) (evaluated_scratch f x s) s s' h.result h.scratch ∙ sym p.1;
      }

module _ (f s t o s' t' o' : List ℕ) (h : TableCall f s t o 1 s' t' o') (zero : word_at o' 0 ≡ 0) where
  table-answer : o' ≡ refusal_words (table_refusal f (length s) (length t))
  table-answer = wrote (has 3 o) _ o o' h.result h.out

  table-number : (table_refusal f (length s) (length t)).number ≡ 0
  table-number = sym (first table-answer) ∙ zero

  table-said : t' ≡ made_table f (length s) t
  table-said = wrote (has 3 o) _ t t' h.result h.table

  table-passed : table_refusal f (length s) (length t) ≡ accepted
  table-passed =
      let m = made f (length s) (length t) table-number in
      table_0 f (length s) (length t) m.sound m.steps m.cells

  file-back : sizes_from (size_words (sizes_of f)) ≡ sizes_of f
  file-back =
      sizes_as_words.decoded (sizes_of f)
      (file-bytes f (file-accepted f (made f (length s) (length t) table-number).sound))

  tabled : Tabled f s t s' t'
  tabled =
      record {
        table = table-said ∙ table-accepted f (length s) t table-number;
        scratch =
            wrote (has 3 o) (table_scratch f s (length t)) s s' h.result h.scratch ∙ scratch-accepted f s t table-number;
      }

module _
    (f₁ f₂ : List ℕ) (B : ℕ) (w s a w' s' a' : List ℕ) (h : ContinueCall f₁ f₂ B w s a 1 w' s' a') (zero : word_at a' 0 ≡ 0)
  where
    abbrev R : Refusal
    R = continue_refusal f₁ f₂ (session_from w) B (length s)

    continue_number : (continuing f₁ f₂ w B s).answer.refusal.number ≡ 0
    unfolding answer_words
    continue_number = sym (first (wrote (continue_fits w a) _ a a' h.result h.answer)) ∙ zero

    continue_accepted : is_refusal R ≡ false
    unfolding answer_to
    continue_accepted =
        sym (answer-refusal (session_from w) (record { file₁ = f₁; file₂ = f₂; budget = B; scratch = length s }))
        ∙ rw (eq-eqb _ 0 continue_number)

    carried_on : Continued f₁ f₂ s s'
    carried_on =
        record {
          scratch =
              wrote (continue_fits w a) _ s s' h.result h.scratch
              ∙ sym (session-scratch f₁ f₂ (session_from w) B s continue_accepted);
        }

-- a second call, of the cells c that a first one wrote
module _ (z x y q y' q' : List ℕ) (v : Sizes) (c w : List ℕ) (same : sizes_from z ≡ v) (given : x ≡ c) where
  refusal-same : cells_refusal (sizes_from z) x (length y) ≡ cells_refusal v c (length y)
  refusal-same =
      ap (λ (k : Sizes). cells_refusal k x (length y)) same ∙ ap (λ (k : List ℕ). cells_refusal v k (length y)) given

  summed-next :
      SumCall z x y q 1 y' q' → cells_refusal v c (length y) ≡ accepted → HoldsCells v w y (summed_up v c y) → CellsWritten v w y y' q'
  summed-next k e p =
      record {
        number = first (wrote (cells_fit z q) (refusal_words (cells_refusal (sizes_from z) x (length y))) q q' k.result k.out) ∙ number_of (refusal-same ∙ e);
        entries =
            wrote (cells_fit z q) (summed_up (sizes_from z) x y) y y' k.result k.written
            ∙ ap (λ (j : Sizes). summed_up j x y) same
            ∙ ap (λ (j : List ℕ). summed_up v j y) given
            ∙ p;
      }

  differenced-next :
      DifferenceCall z x y q 1 y' q' → cells_refusal v c (length y) ≡ accepted → HoldsCells v w y (differenced v c y) → CellsWritten v w y y' q'
  differenced-next k e p =
      record {
        number = first (wrote (cells_fit z q) (refusal_words (cells_refusal (sizes_from z) x (length y))) q q' k.result k.out) ∙ number_of (refusal-same ∙ e);
        entries =
            wrote (cells_fit z q) (differenced (sizes_from z) x y) y y' k.result k.written
            ∙ ap (λ (j : Sizes). differenced j x y) same
            ∙ ap (λ (j : List ℕ). differenced v j y) given
            ∙ p;
      }

-- a call of which the number is 0 is accepted
cells-passed : (z : Sizes) (cells : List ℕ) (len : ℕ) → (cells_refusal z cells len).number ≡ 0 → cells_refusal z cells len ≡ accepted
cells-passed z cells len e = cells-accepted z cells len (cells-taken z cells len e)

-- a first call that is accepted
first-passed :
    (z x y o o' : List ℕ) → 1 ≡ returned (cells_fit z o) →
    o' ≡ leaves (cells_fit z o) (refusal_words (cells_refusal (sizes_from z) x (length y))) o → word_at o' 0 ≡ 0 →
    cells_refusal (sizes_from z) x (length y) ≡ accepted
first-passed z x y o o' r e zero =
    let said = wrote (cells_fit z o) (refusal_words (cells_refusal (sizes_from z) x (length y))) o o' r e in
    cells-passed (sizes_from z) x (length y) (sym (first said) ∙ zero)

difference_of_sum_lem : DifferenceOfSumInC
difference_of_sum_lem z t y o y' o' h zero u q u' q' k room =
    let p = difference_of_sum (sizes_from z) t y u (first-passed z t y o o' h.result h.out zero) room in
    differenced-next z y' u q u' q' (sizes_from z) (summed_up (sizes_from z) t y) _ refl
    (wrote (cells_fit z o) _ y y' h.result h.written) k p.0 p.1

sum_of_difference_lem : SumOfDifferenceInC
sum_of_difference_lem z y t o t' o' h zero u q u' q' k room =
    let p = sum_of_difference (sizes_from z) y t u (first-passed z y t o o' h.result h.out zero) room in
    summed-next z t' u q u' q' (sizes_from z) (differenced (sizes_from z) y t) _ refl
    (wrote (cells_fit z o) _ t t' h.result h.written) k p.0 p.1

pub accepted_in_c : AcceptedInC
accepted_in_c =
    record {
      checking = checked;
      operations = stretched;
      bound = bounded;
      grid = gridded;
      evaluating = evaluated;
      making = tabled;
      continuing = carried_on;
      sum_of_table = λ f s t o s' t' o' h zero y q y' q' k room.
          let p = sum_of_made f (length s) t y (table-passed f s t o s' t' o' h zero) room in
          summed-next (size_words (sizes_of f)) t' y q y' q' (sizes_of f) (made_table f (length s) t) _
          (file-back f s t o s' t' o' h zero) (table-said f s t o s' t' o' h zero) k p.0 p.1;
      difference_of_sum = difference_of_sum_lem;
      sum_of_difference = sum_of_difference_lem;
    }
