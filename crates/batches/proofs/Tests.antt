-- The test in a lane is the test of the outputs at its vector, and over the grid's vector at a place the test at that place.
-- Assumes nothing.
use mathlib.Core.Path.{◌≡◌, sym, ◌∙◌, ap, ap₂}
use mathlib.Core.Bool.{not}
use mathlib.Core.List.{List}
use Prim.Native.Nat.{ℕ, ◌+◌, ◌*◌, ◌-◌, ◌%◌, ◌^◌, ◌≤◌, ◌<◌}
use native.Mathlib.Nat.{add-zero, mul-le-mul_left}
use native.Mathlib.Omega.{arith}
use lib.Dec.{eqb}
use lib.ListN.{length, get_or, take}
use Rattle.evaluate.specs.Evaluate.{output_of}
use Rattle.evaluate.specs.Run.{word_output}
use Rattle.evaluate.proofs.Words.{padded-output}
use Rattle.file.specs.Accepted.{Accepted}
use Rattle.fields.specs.File.{sizes_of}
use Rattle.fields.specs.Steps.{steps_of}
use Rattle.grid.specs.Grid.{axes_of, lows_of, grid_vector}
use Rattle.grid.proofs.Grids.{length-lows}
use Rattle.lanes.specs.Lanes.{Reads, HeldTo, Shown, Room}
use Rattle.lanes.proofs.Stepped.{lane-output}
use Rattle.plan.specs.Comparison.{outputs_differ, Comparable}
use Rattle.plan.specs.declared.Plan.{Plan}
use Rattle.plan.proofs.Numbers as plan
use Rattle.row_lanes.specs.Lanes.{unequal}
use Rattle.rows.specs.Rows.{lane}
use Rattle.rows.proofs.Writing.{before-row}
use Rattle.ranges.specs.Search.{first}
use Rattle.ranges.proofs.Search.{first-shift}
use Rattle.sizes.specs.Padded.{padded}
use Rattle.sizes.specs.Sizes.{max_inputs}
use Rattle.sizes.specs.declared.Sizes.{Sizes}
use Rattle.datapath.specs.Steps.{output}
use Rattle.grid_theorem.specs.Comparison.{differs_at}
use Rattle.vectors.specs.Vectors.{low_words, held_at}
use Rattle.vectors.proofs.Raised.{held-integers}
use Rattle.batches.specs.Prepared.{Prepared}
use Rattle.batches.specs.declared.Shape.{Shape}

-- the vector at place p, as words
abbrev pub words_at : List ℕ → ℕ → List ℕ
words_at s p = held_at (padded (low_words (sizes_of s))) (axes_of (sizes_of s)) p

-- the outputs at these words are those at the grid's vector
pub output-held : (s₁ s : List ℕ) → Accepted s → (p : ℕ) → word_output s (words_at s₁ p) ≡ output_of s (grid_vector (sizes_of s₁) p)
unfolding grid_vector low_words
output-held s₁ s a p =
    let z = sizes_of s₁ in
    ap (word_output s) (held-integers (lows_of z) (axes_of z) p (length-lows z)) ∙ padded-output s a (grid_vector z p)

pub output-test :
    (s₁ s₂ : List ℕ) (p : ℕ) → Comparable s₁ s₂ →
    not (eqb (word_output s₁ (words_at s₁ p)) (word_output s₂ (words_at s₁ p))) ≡ outputs_differ s₁ s₂ p
unfolding outputs_differ differs_at output_of grid_vector
output-test s₁ s₂ p k =
    let x = grid_vector (sizes_of s₁) p in
    ap₂ (λ a b. not (eqb a b)) (output-held s₁ s₁ k.sound₁ p) (output-held s₁ s₂ k.sound₂ p)
    ∙ ap (λ (z : Sizes). not (eqb (output_of s₁ x) (output z.m (steps_of s₂) x))) (sym k.same)

module _
    {v : Shape} {s₁ s₂ : List ℕ} {g : Plan} {rows other : List ℕ} (k : Prepared v s₁ s₂ g rows other)
  where
    abbrev w : ℕ
    w = v.w

    abbrev n₁ : ℕ
    n₁ = g.n1

    abbrev n₂ : ℕ
    n₂ = g.n2

    abbrev d : ℕ
    d = g.d

    -- row n - 1 is a row of any rows for n steps
    pub last₁ : w * (n₁ - 1) + w ≤ w * n₁
    last₁ = before-row w (n₁ - 1) n₁ (omega (arith, plan.count₁ k.planned, k.planned.files.sound₁.count_low))

    pub last₂ : w * (n₂ - 1) + w ≤ w * n₂
    last₂ = before-row w (n₂ - 1) n₂ (omega (arith, plan.count₂ k.planned, k.planned.files.sound₂.count_low))

    -- rows for all inputs that a file may have are rows for the d inputs
    pub inputs-room : (inputs : List ℕ) → w * max_inputs ≤ length inputs → w * d ≤ length inputs
    inputs-room inputs h =
        let few : d ≤ max_inputs = omega (arith, plan.inputs k.planned, k.planned.files.sound₁.inputs_high) in
        omega (arith, mul-le-mul_left w few)

    pub room₁ : (inputs : List ℕ) → w * d ≤ length inputs → Room w s₁ n₁ inputs rows
    room₁ inputs h = record { width = k.width; sound = k.planned.files.sound₁; count = plan.count₁ k.planned; input_rows = rw (← plan.inputs k.planned) h; step_rows = k.room₁ }

    -- in any rows with room for the steps of file 2
    pub room₂ : (inputs space : List ℕ) → w * d ≤ length inputs → w * n₂ ≤ length space → Room w s₂ n₂ inputs space
    room₂ inputs space h r =
        record {
          width = k.width;
          sound = k.planned.files.sound₂;
          count = plan.count₂ k.planned;
          input_rows = rw (← k.planned.files.same, ← plan.inputs k.planned) h;
          step_rows = r;
        }

    pub shown₁ : (space x : List ℕ) (l : ℕ) → HeldTo w s₁ x space l n₁ → Shown w s₁ x space l (n₁ - 1)
    shown₁ space x l h = lane-output w s₁ x space l n₁ (plan.count₁ k.planned) (h (n₁ - 1) (omega (arith, plan.count₁ k.planned, k.planned.files.sound₁.count_low)))

    pub shown₂ : (space x : List ℕ) (l : ℕ) → HeldTo w s₂ x space l n₂ → Shown w s₂ x space l (n₂ - 1)
    shown₂ space x l h = lane-output w s₂ x space l n₂ (plan.count₂ k.planned) (h (n₂ - 1) (omega (arith, plan.count₂ k.planned, k.planned.files.sound₂.count_low)))

    pub lane_test :
        (v u : List ℕ) (a b l : ℕ) (x : List ℕ) → Shown w s₁ x v l a → Shown w s₂ x u l b →
        unequal w (sizes_of s₁).m v a u b l ≡ not (eqb (word_output s₁ x) (word_output s₂ x))
    unfolding unequal
    lane_test v u a b l x h₁ h₂ =
        ap₂ (λ p q. not (eqb p q)) h₁ (ap (λ (z : Sizes). lane w u b l % 2 ^ z.m) k.planned.files.same ∙ h₂)

    -- the slices may be written, and keep their lengths
    pub prepared_kept :
        (rows' other' : List ℕ) → length rows' ≡ length rows → length other' ≡ length other → Prepared v s₁ s₂ g rows' other'
    prepared_kept rows' other' e₁ e₂ =
        record {
          width = k.width;
          planned = k.planned;
          room₁ = rw e₁ k.room₁;
          room₂ = λ t. rw e₂ (k.room₂ t);
          shared = λ t. rw e₁ (k.shared t);
          saved = λ t. rw e₂ (k.saved t);
        }

    -- lanes that hold the vectors from place p on, and rows a and b the outputs there: the first lane that differs is that of the first place
    pub batch_first :
        (inputs v u : List ℕ) (a b p live m r : ℕ) → m ≡ (sizes_of s₁).m → live ≤ w →
        ((i l : ℕ) → i < max_inputs → l < live → lane w inputs i l ≡ get_or (held_at g.lows (take d g.axes) (p + l)) i 0) →
        ((l : ℕ) (x : List ℕ) → l < w → Reads w s₁ inputs l x → Shown w s₁ x v l a) →
        ((l : ℕ) (x : List ℕ) → l < w → Reads w s₂ inputs l x → Shown w s₂ x u l b) →
        r ≡ first (unequal w m v a u b) 0 live → p + r ≡ first (outputs_differ s₁ s₂) p live
    batch_first inputs v u a b p live m r e room columns run₁ run₂ found =
        ap (λ l. p + l) (found ∙ ap (λ j. first (unequal w j v a u b) 0 live) e)
        ∙ sym (first-shift (outputs_differ s₁ s₂) (unequal w (sizes_of s₁).m v a u b) p 0 live (λ l low high. sym (test l (omega arith))))
        ∙ ap (λ q. first (outputs_differ s₁ s₂) q live) (add-zero p)
      where
        test : (l : ℕ) → l < live → unequal w (sizes_of s₁).m v a u b l ≡ outputs_differ s₁ s₂ (p + l)
        test l h =
            let x = words_at s₁ (p + l) in
            let reads₁ : Reads w s₁ inputs l x = λ i hi. rw (plan.grid k.planned, plan.lowest k.planned) at (columns i l (omega (arith, hi, k.planned.files.sound₁.inputs_high)) h) in
            lane_test v u a b l x (run₁ l x (omega arith) reads₁) (run₂ l x (omega arith) (λ i hi. reads₁ i (rw k.planned.files.same hi)))
            ∙ output-test s₁ s₂ (p + l) k.planned.files
