-- Along w lines of a grid, a lane for each: a vector stands beside the one before it in its line, so the rows of a file that hold the values there
-- and are computed again hold those at the vector.
--   Walked a s .. t                 the invariant of one file along the lines: the fronts are as at entry, every lane is on the grid, and the rows hold
--                                   the values at the vectors with the last input at the count t - 1
--   SavedTo a s inputs saved r t    in the first r lanes the saved rows show the outputs at every vector with the last input at a count below t
-- Assumes nothing.
use Rattle.std.proofs.Common.{◌≡◌, ℕ, ◌+◌, ◌-◌, ◌%◌, ◌^◌, ◌<◌, ◌≤◌, false, List, length, get_or, set, sym, refl, ap, ◌∙◌, subst, arith, length-append, get_or-set_other, get_or-set_same, eqb-true}
use native.Mathlib.Decide.{ℕ_discrete}
use borrow.Author.Tests.{not-false}
use lib.ListN.{length-replicate}
use Rattle.dependence.specs.Dependence.{Beside, Rest}
use Rattle.file.specs.Accepted.{Accepted}
use Rattle.fields.specs.File.{sizes_of, step_count}
use Rattle.lanes.specs.Lanes.{HeldTo, Shown, LanesOnGrid, Room}
use Rattle.lanes.proofs.Stepped.{lane-output}
use Rattle.row_lanes.specs.Lanes.{unequal}
use Rattle.rows.specs.Rows.{lane, Written}
use Rattle.ranges.specs.Search.{first}
use Rattle.ranges.proofs.Search.{first-most, first-before}
use Rattle.sizes.specs.Sizes.{max_inputs}
use Rattle.sizes.specs.Padded.{padded}
use Rattle.sizes.proofs.Padded.{padded-entry}
use Rattle.vectors.specs.Vectors.{GridWord}
use Rattle.line_outputs.specs.AlongLines.{Front, line_word, Last, Refreshed, RefreshedAt, AlongLine, FrontsKept}
use Rattle.line_outputs.specs.declared.Along.{Along}

-- beside every vector stands one with the value v for input j
module _ (y : List ℕ) (j v : ℕ) where
  beside : Beside j (set (padded y) j v) y
  beside i n = get_or-set_other (padded y) j i v 0 n ∙ padded-entry y i

  beside_at : j < max_inputs → get_or (set (padded y) j v) j 0 ≡ v
  beside_at h = get_or-set_same (padded y) j v 0 (simp (length-append, length-replicate) (omega arith))

-- lanes that are not unequal are equal modulo 2^m
lanes-equal : (w m : ℕ) (v : List ℕ) (a : ℕ) (u : List ℕ) (b l : ℕ) → unequal w m v a u b l ≡ false → lane w v a l % 2 ^ m ≡ lane w u b l % 2 ^ m
unfolding unequal
lanes-equal w m v a u b l e = eqb-true _ _ (not-false _ e)

-- with the last input at a count below its axis, the lanes stay on the grid
pub filled_on_grid :
    (w : ℕ) (s : List ℕ) (d : ℕ) (inputs inputs' : List ℕ) (v : ℕ) → GridWord (sizes_of s) (d - 1) v →
    Written w inputs inputs' (d - 1) (λ l. v) → LanesOnGrid w s inputs → LanesOnGrid w s inputs'
filled_on_grid w s d inputs inputs' v on filled g i l hi hl =
    elim (ℕ_discrete i (d - 1)) [
      | yes q ↦ rw (q, filled.row l hl) on
      | no q ↦ subst (GridWord (sizes_of s) i) (sym (filled.others i l hl q)) (g i l hi hl)
    ]

-- the input rows with the last input at the word v, after the word v'
module _
    (w d : ℕ) (inputs₀ inputs inputs' : List ℕ) (v v' t : ℕ) (low : 1 ≤ d) (high : d ≤ max_inputs)
    (fronts : FrontsKept w d inputs₀ inputs) (filled : Written w inputs inputs' (d - 1) (λ l. v))
  where
    pub fronts-kept : FrontsKept w d inputs₀ inputs'
    fronts-kept i l h g = filled.others i l g (λ e. omega arith) ∙ fronts i l h g

    reads : (l : ℕ) (y : List ℕ) → l < w → Front w d inputs₀ l y → get_or y (d - 1) 0 ≡ v → (i : ℕ) → i < d → lane w inputs' i l ≡ get_or y i 0
    reads l y g f e i h =
        elim (ℕ_discrete i (d - 1)) [
          | yes q ↦ rw q (filled.row l g ∙ sym e)
          | no q ↦ let less : i < d - 1 = omega arith in fronts-kept i l less g ∙ f i less
        ]

    -- the rows of a file that held the values at v' hold those at v
    pub refreshed :
        (s : List ℕ) (n u lw : ℕ) (before after list : List ℕ) → d ≡ (sizes_of s).d →
        Refreshed (record { n = n; d = d; u = u; low = lw; w = w }) s inputs' before after list t →
        Rest s (d - 1) n list (length list) →
        ((l : ℕ) (x : List ℕ) → 0 < t → l < w → Front w d inputs₀ l x → get_or x (d - 1) 0 ≡ v' → HeldTo w s x before l n) →
        (l : ℕ) (y : List ℕ) → l < w → Front w d inputs₀ l y → get_or y (d - 1) 0 ≡ v → HeldTo w s y after l n
    refreshed s n u lw before after list size run rest was l y g f e =
        run (d - 1) l (set (padded y) (d - 1) v') y g rest (beside y (d - 1) v') (λ i h. reads l y g f e i (rw size h))
        (λ some. was l _ some g (λ i h. f i h ∙ sym (beside y (d - 1) v' i (λ q. omega arith))) (beside_at y (d - 1) v' (omega arith)))

pub record Walked (a : Along) (s inputs₀ before rows inputs : List ℕ) (t : ℕ) : Type 0 where
  pub long : length inputs ≡ length inputs₀
  pub long_rows : length rows ≡ length before
  pub fronts : FrontsKept a.w a.d inputs₀ inputs
  pub on_grid : LanesOnGrid a.w s inputs
  pub held :
      (l : ℕ) (x : List ℕ) → 0 < t → l < a.w → Front a.w a.d inputs₀ l x → Last a.d a.low (t - 1) x → HeldTo a.w s x rows l a.n

pub walk_start : (a : Along) (s inputs rows : List ℕ) → LanesOnGrid a.w s inputs → Walked a s inputs rows rows inputs 0
walk_start a s inputs rows g =
    record { long = refl; long_rows = refl; fronts = λ i l h b. refl; on_grid = g; held = λ l x z. absurd (omega arith) }

abbrev pub SavedTo : Along → List ℕ → List ℕ → List ℕ → ℕ → ℕ → Type 0
SavedTo a s inputs saved r t =
    (l c : ℕ) (x : List ℕ) → l < r → c < t → Front a.w a.d inputs l x → Last a.d a.low c x → Shown a.w s x saved l c

-- the lanes are on the grid with the last input at a count below its axis
pub line_grid :
    {a : Along} {s inputs list : List ℕ} (k : AlongLine a s inputs list) {inputs' : List ℕ} {t : ℕ} → t < a.u →
    Written a.w inputs inputs' (a.d - 1) (λ l. line_word a.low t) → LanesOnGrid a.w s inputs'
line_grid {a} {s} {inputs} k {inputs'} {t} below filled =
    filled_on_grid a.w s a.d inputs inputs' (line_word a.low t)
    (record { count = t; below = omega (arith, k.axis); above = ap (λ n. line_word n t) k.lowest })
    filled k.on_grid

-- what a round asks
module _ {a : Along} {s inputs₀ before rows inputs : List ℕ} {t : ℕ} (was : Walked a s inputs₀ before rows inputs t) where
  pub line_again : {list : List ℕ} → AlongLine a s inputs₀ list → AlongLine a s inputs list
  line_again k =
      record {
        input_count = k.input_count;
        axis = k.axis;
        lowest = k.lowest;
        listed = k.listed;
        rest = k.rest;
        room = omega (arith, k.room, was.long);
        on_grid = was.on_grid;
      }

  pub room_again : Room a.w s a.n inputs₀ before → Room a.w s a.n inputs rows
  room_again r =
      record {
        width = r.width;
        sound = r.sound;
        count = r.count;
        input_rows = omega (arith, r.input_rows, was.long);
        step_rows = omega (arith, r.step_rows, was.long_rows);
      }

-- a round of a file: the last input goes to the count t, and the rows are refreshed
module _
    {a : Along} {s inputs₀ list : List ℕ} (k : AlongLine a s inputs₀ list) (sound : Accepted s) {before rows inputs inputs' rows' : List ℕ} {t : ℕ}
    (was : Walked a s inputs₀ before rows inputs t) (now : RefreshedAt a s inputs inputs' rows rows' list t)
  where
    walk_now : (l : ℕ) (x : List ℕ) → l < a.w → Front a.w a.d inputs₀ l x → Last a.d a.low t x → HeldTo a.w s x rows' l a.n
    walk_now l x g f q =
        refreshed a.w a.d inputs₀ inputs inputs' (line_word a.low t) (line_word a.low (t - 1)) t (omega (arith, k.input_count, sound.inputs_low))
        (omega (arith, k.input_count, sound.inputs_high)) was.fronts now.last s a.n a.u a.low rows rows' list k.input_count now.rows k.rest
        was.held l x g f q

    pub walk_step : length inputs' ≡ length inputs → length rows' ≡ length rows → Walked a s inputs₀ before rows' inputs' (t + 1)
    walk_step e e' =
        record {
          long = e ∙ was.long;
          long_rows = e' ∙ was.long_rows;
          fronts =
              fronts-kept a.w a.d inputs₀ inputs inputs' (line_word a.low t) (line_word a.low t) t (omega (arith, k.input_count, sound.inputs_low))
              (omega (arith, k.input_count, sound.inputs_high)) was.fronts now.last;
          on_grid = now.on_grid;
          held = λ l x some g f q.
              let back : t + 1 - 1 ≡ t = omega arith in
              walk_now l x g f (q ∙ ap (line_word a.low) back);
        }

    now_shown : a.n ≡ step_count s → (l : ℕ) (x : List ℕ) → l < a.w → Front a.w a.d inputs₀ l x → Last a.d a.low t x → Shown a.w s x rows' l (a.n - 1)
    now_shown e l x g f q = lane-output a.w s x rows' l a.n e (walk_now l x g f q (a.n - 1) (omega (arith, sound.count_low)))

    -- the output row is saved
    pub save_step :
        (saved saved' : List ℕ) → a.n ≡ step_count s → SavedTo a s inputs₀ saved a.w t → Written a.w saved saved' t (lane a.w rows' (a.n - 1)) →
        SavedTo a s inputs₀ saved' a.w (t + 1)
    save_step saved saved' e old wr l c x g h f last =
        let m = (sizes_of s).m in
        elim (ℕ_discrete c t) [
          | yes q ↦ rw q (ap (λ v. v % 2 ^ m) (wr.row l g) ∙ now_shown e l x g f (last ∙ ap (line_word a.low) q))
          | no q ↦ ap (λ v. v % 2 ^ m) (wr.others c l g q) ∙ old l c x g (omega arith) f last
        ]

    -- the output row is compared with the saved one
    pub match_step :
        (saved : List ℕ) (m r b : ℕ) → a.n ≡ step_count s → m ≡ (sizes_of s).m → r ≤ a.w → SavedTo a s inputs₀ saved r t →
        b ≡ first (unequal a.w m saved t rows' (a.n - 1)) 0 r → (b ≤ r) × SavedTo a s inputs₀ saved b (t + 1)
    match_step saved m r b e em few old found = (fewer, more)
      where
        fewer : b ≤ r
        fewer = omega (arith, found, first-most (unequal a.w m saved t rows' (a.n - 1)) 0 r)

        more : SavedTo a s inputs₀ saved b (t + 1)
        more l c x g h f last =
            elim (ℕ_discrete c t) [
              | yes q ↦
                  let same = first-before (unequal a.w (sizes_of s).m saved t rows' (a.n - 1)) 0 r l (omega arith)
                  (omega (arith, found ∙ ap (λ j. first (unequal a.w j saved t rows' (a.n - 1)) 0 r) em)) in
                  rw q (lanes-equal a.w (sizes_of s).m saved t rows' (a.n - 1) l same ∙ now_shown e l x (omega (arith, fewer)) f (last ∙ ap (line_word a.low) q))
              | no q ↦ old l c x (omega (arith, fewer)) (omega arith) f last
            ]
