-- Two files along w lines of a grid, a lane for each: before the first lane that differs the outputs agree.
--   Agreed w s₁ s₂ .. a t    the invariant of `agreeing_apart`: the lanes' fronts are as at entry, in the first a lanes the outputs agree at every
--                            vector with the last input at a count below t, and in all lanes the rows hold the values at those with it at t - 1;
--                            every lane is on the grid
-- Assumes nothing.
use Rattle.std.proofs.Common.{◌≡◌, ℕ, ◌+◌, ◌-◌, ◌<◌, ◌≤◌, List, length, get_or, take, sym, refl, ap, ◌∙◌, ⊎_elim, eq-or-lt_of_le, arith, get_or-take, eqb-true}
use borrow.Author.Tests.{not-false}
use Rattle.batches.specs.Prepared.{Prepared}
use Rattle.batches.proofs.Tests.{shown₁, shown₂, lane_test}
use Rattle.batches.specs.declared.Shape.{Shape}
use Rattle.dependence.specs.Dependence.{Rest}
use Rattle.evaluate.specs.Run.{word_output}
use Rattle.fields.specs.File.{sizes_of}
use Rattle.grid.specs.Grid.{axes_of}
use Rattle.lanes.specs.Lanes.{HeldTo, LanesOnGrid}
use Rattle.line_outputs.specs.AlongLines.{Front, line_word, Last, Refreshed, FrontsKept}
use Rattle.line_outputs.proofs.AlongLines.{filled_on_grid, fronts-kept, refreshed}
use Rattle.plan.specs.Plan.{Planned}
use Rattle.plan.specs.declared.Plan.{Plan}
use Rattle.plan.proofs.Numbers as plan
use Rattle.row_lanes.specs.Lanes.{unequal}
use Rattle.rows.specs.Rows.{Written}
use Rattle.ranges.specs.Search.{first}
use Rattle.ranges.proofs.Search.{first-most, first-before}
use Rattle.sizes.specs.Sizes.{max_inputs}
use Rattle.sizes.proofs.Padded.{padded-entry}
use Rattle.vectors.specs.Vectors.{low_words, GridWord}
use Rattle.grid_lines.specs.Lines.{last_axis, last_low, along_of}

pub record Agreed (w : ℕ) (s₁ s₂ : List ℕ) (n₁ n₂ d lw : ℕ) (inputs₀ before₁ before₂ rows₁ rows₂ inputs : List ℕ) (a t : ℕ) : Type 0 where
  pub long : length inputs ≡ length inputs₀
  pub long₁ : length rows₁ ≡ length before₁
  pub long₂ : length rows₂ ≡ length before₂
  pub fronts : FrontsKept w d inputs₀ inputs
  pub on_grid : LanesOnGrid w s₁ inputs
  pub high : a ≤ w
  pub agree : (l c : ℕ) (x : List ℕ) → l < a → c < t → Front w d inputs₀ l x → Last d lw c x → word_output s₁ x ≡ word_output s₂ x
  pub held₁ : (l : ℕ) (x : List ℕ) → 0 < t → l < w → Front w d inputs₀ l x → Last d lw (t - 1) x → HeldTo w s₁ x rows₁ l n₁
  pub held₂ : (l : ℕ) (x : List ℕ) → 0 < t → l < w → Front w d inputs₀ l x → Last d lw (t - 1) x → HeldTo w s₂ x rows₂ l n₂

pub agreed_start :
    (w : ℕ) (s₁ s₂ : List ℕ) (n₁ n₂ d lw : ℕ) (inputs rows₁ rows₂ : List ℕ) → LanesOnGrid w s₁ inputs →
    Agreed w s₁ s₂ n₁ n₂ d lw inputs rows₁ rows₂ rows₁ rows₂ inputs w 0
agreed_start w s₁ s₂ n₁ n₂ d lw inputs rows₁ rows₂ g =
    record {
      long = refl;
      long₁ = refl;
      long₂ = refl;
      fronts = λ i l h g. refl;
      on_grid = g;
      high = omega arith;
      agree = λ l c x h z. absurd (omega arith);
      held₁ = λ l x z. absurd (omega arith);
      held₂ = λ l x z. absurd (omega arith);
    }

-- the first d of the axes as the machine holds them are the grid's
pub axis-at :
    {s₁ s₂ : List ℕ} {p : Plan} → Planned s₁ s₂ p → (i : ℕ) → i < p.d → get_or p.axes i 0 ≡ get_or (axes_of (sizes_of s₁)) i 0
axis-at {p = p} k i h =
    let e : get_or (take p.d p.axes) i 0 ≡ get_or p.axes i 0 = rw get_or-take in
    sym e ∙ ap (λ us. get_or us i 0) (plan.grid k)

pub low-at : {s₁ s₂ : List ℕ} {p : Plan} → Planned s₁ s₂ p → (i : ℕ) → get_or p.lows i 0 ≡ get_or (low_words (sizes_of s₁)) i 0
low-at {s₁ = s₁} k i = ap (λ l. get_or l i 0) (plan.lowest k) ∙ padded-entry (low_words (sizes_of s₁)) i

-- the word of a count below the last axis is on the grid
pub last_on_grid :
    {s₁ s₂ : List ℕ} {p : Plan} → Planned s₁ s₂ p → (v t : ℕ) → t < last_axis p → v ≡ line_word (last_low p) t → GridWord (sizes_of s₁) (p.d - 1) v
last_on_grid {p = p} k v t h e =
    record {
      count = t;
      below = omega (arith, axis-at k (p.d - 1) (omega (arith, (plan.some_inputs k).0)));
      above = e ∙ ap (λ n. line_word n t) (low-at k (p.d - 1));
    }

-- a round: the last input goes to the count t, its word x, both files' rows are refreshed, and the first lane that differs is found
module _
    (v : Shape) (s₁ s₂ : List ℕ) (p : Plan) (inputs₀ before₁ before₂ : List ℕ) (rows₁ rows₂ inputs : List ℕ) (rows₁' rows₂' inputs' : List ℕ) (a t word : ℕ)
    (k : Prepared v s₁ s₂ p rows₁' rows₂') (was : Agreed v.w s₁ s₂ p.n1 p.n2 p.d (last_low p) inputs₀ before₁ before₂ rows₁ rows₂ inputs a t)
    (at : word ≡ line_word (last_low p) t) (filled : Written v.w inputs inputs' (p.d - 1) (λ l. word))
  where
    abbrev w : ℕ
    w = v.w

    abbrev n₁ : ℕ
    n₁ = p.n1

    abbrev n₂ : ℕ
    n₂ = p.n2

    abbrev d : ℕ
    d = p.d

    low : 1 ≤ d
    low = (plan.some_inputs k.planned).0

    high : d ≤ max_inputs
    high = (plan.some_inputs k.planned).1

    pub agreed_step :
        (list₁ list₂ : List ℕ) (m b : ℕ) → t < last_axis p → length inputs' ≡ length inputs → length rows₁' ≡ length rows₁ → length rows₂' ≡ length rows₂ →
        Rest s₁ (d - 1) n₁ list₁ (length list₁) → Rest s₂ (d - 1) n₂ list₂ (length list₂) → Refreshed (along_of p n₁ w) s₁ inputs' rows₁ rows₁' list₁ t →
        Refreshed (along_of p n₂ w) s₂ inputs' rows₂ rows₂' list₂ t → m ≡ (sizes_of s₁).m →
        b ≡ first (unequal w m rows₁' (n₁ - 1) rows₂' (n₂ - 1)) 0 a →
        Agreed w s₁ s₂ n₁ n₂ d (last_low p) inputs₀ before₁ before₂ rows₁' rows₂' inputs' b (t + 1)
    agreed_step list₁ list₂ m b below long long₁ long₂ rest₁ rest₂ run₁ run₂ e found =
        record {
          long = long ∙ was.long;
          long₁ = long₁ ∙ was.long₁;
          long₂ = long₂ ∙ was.long₂;
          fronts = fronts-kept w d inputs₀ inputs inputs' word word t low high was.fronts filled;
          on_grid = filled_on_grid w s₁ d inputs inputs' word (last_on_grid k.planned word t below at) filled was.on_grid;
          high = omega (arith, fewer, was.high);
          agree = λ l c x g h f last. ⊎_elim
              (λ (q : c ≡ t). same l x g f (last ∙ ap (line_word (last_low p)) q))
              (λ (less : c < t). was.agree l c x (omega (arith, fewer)) less f last)
              (eq-or-lt_of_le (omega arith));
          held₁ = λ l x some g f q. now₁ l x g f (q ∙ ap (line_word (last_low p)) back);
          held₂ = λ l x some g f q. now₂ l x g f (q ∙ ap (line_word (last_low p)) back);
        }
      where
        back : t + 1 - 1 ≡ t
        back = omega arith

        now₁ : (l : ℕ) (x : List ℕ) → l < w → Front w d inputs₀ l x → Last d (last_low p) t x → HeldTo w s₁ x rows₁' l n₁
        now₁ l x g f q =
            refreshed w d inputs₀ inputs inputs' word (line_word (last_low p) (t - 1)) t low high was.fronts filled s₁ n₁ (last_axis p) (last_low p) rows₁ rows₁' list₁
            (plan.inputs k.planned) run₁ rest₁ was.held₁ l x g f (q ∙ sym at)

        now₂ : (l : ℕ) (x : List ℕ) → l < w → Front w d inputs₀ l x → Last d (last_low p) t x → HeldTo w s₂ x rows₂' l n₂
        now₂ l x g f q =
            refreshed w d inputs₀ inputs inputs' word (line_word (last_low p) (t - 1)) t low high was.fronts filled s₂ n₂ (last_axis p) (last_low p) rows₂ rows₂' list₂
            (plan.inputs k.planned ∙ ap (λ z. z.d) k.planned.files.same) run₂ rest₂ was.held₂ l x g f (q ∙ sym at)

        fewer : b ≤ a
        fewer = omega (arith, found, first-most (unequal w m rows₁' (n₁ - 1) rows₂' (n₂ - 1)) 0 a)

        same : (l : ℕ) (x : List ℕ) → l < b → Front w d inputs₀ l x → Last d (last_low p) t x → word_output s₁ x ≡ word_output s₂ x
        same l x g f q =
            let h : l < w = omega (arith, fewer, was.high) in
            eqb-true _ _
            (not-false _
            (sym (lane_test k rows₁' rows₂' (n₁ - 1) (n₂ - 1) l x (shown₁ k rows₁' x l (now₁ l x h f q)) (shown₂ k rows₂' x l (now₂ l x h f q)))
            ∙ first-before (unequal w (sizes_of s₁).m rows₁' (n₁ - 1) rows₂' (n₂ - 1)) 0 a l (omega arith)
            (omega (arith, found ∙ ap (λ j. first (unequal w j rows₁' (n₁ - 1) rows₂' (n₂ - 1)) 0 a) e))))
