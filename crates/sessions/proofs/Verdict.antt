-- The verdict is right of all full-width vectors, and closes the session under its own mark. By the grid theorem: the files of an accepted
-- opening have the same sizes, with m from 1 to 64, so that the first difference on the grid is the first of all, and where the grid has
-- none there is none. Assumes nothing.
use mathlib.Core.Path.{◌≡◌, refl, ap, subst}
use mathlib.Core.Bool.{false}
use mathlib.Core.Logic.{◌↔◌, inl, inr}
use mathlib.Core.List.{List}
use Prim.Native.Nat.{ℕ, ◌-◌, ◌<◌, ◌≤◌}
use native.Mathlib.Omega.{arith}
use lib.IntN.{ℤ}
use Rattle.evaluate.specs.Evaluate.{output_of}
use Rattle.file.specs.Accepted.{Accepted}
use Rattle.fields.specs.File.{sizes_of}
use Rattle.fields.specs.Steps.{steps_of}
use Rattle.fields.proofs.Heads.{length-widths}
use Rattle.file.proofs.Sound.{file-ruled}
use Rattle.formats.specs.declared.Format.{Format}
use Rattle.grid.specs.Grid.{axes_of, lows_of, grid_size, grid_vector}
use Rattle.plan.proofs.Axes.{file-grid-least}
use Rattle.sizes.specs.Sizes.{formats_of, is_refusal}
use Rattle.sizes.specs.declared.Sizes.{Sizes}
use Rattle.grid_theorem.specs.Comparison.{Agree, IsFirst}
use Rattle.grid_theorem.specs.Statement.{OnGrid}
use Rattle.grid_theorem.proofs.Grid.{grid_theorem}
use Rattle.vectors.proofs.GridWords.{each_grid_words}
use Rattle.sessions.specs.Calls.{IsVerdict}
use Rattle.sessions.specs.Demand3.{first_place, stop, FullWidth, stop_vector, StopInRange, Settled, MarkOf}
use Rattle.sessions.specs.Session.{pair_refusal, plain_answer, differs_answer}
use Rattle.sessions.specs.declared.Answer.{Answer}
use Rattle.sessions.proofs.Pair.{comparable}
use Rattle.sessions.proofs.Step.{mark_at, mark-differ, mark-equal, Verdict, differs, equivalent, place-most, stop-differs, stop-range}

pub given : (f₁ f₂ : List ℕ) (a : Answer) → Verdict f₁ f₂ a → IsVerdict a
unfolding plain_answer differs_answer
given f₁ f₂ a (equivalent n p e) = inl (rw e)
given f₁ f₂ a (differs n p e) = inr (rw e)

-- the mark from the stop on
pub marked : (f₁ f₂ : List ℕ) (a : Answer) → Verdict f₁ f₂ a → (S : ℕ) → stop f₁ f₂ ≤ S → MarkOf a (mark_at f₁ f₂ S)
unfolding plain_answer differs_answer
marked f₁ f₂ a (equivalent n p e) S h =
    record { equal = λ _. mark-equal f₁ f₂ S h p; differ = λ d. absurd (let q : ◌≡◌ {A = ℕ} 0 1 = cc in omega arith) }
marked f₁ f₂ a (differs n p e) S h =
    record { equal = λ d. absurd (let q : ◌≡◌ {A = ℕ} 0 1 = cc in omega arith); differ = λ _. mark-differ f₁ f₂ S h p }

module _ (f₁ f₂ : List ℕ) (pair : is_refusal (pair_refusal f₁ f₂) ≡ false) where
  abbrev m : ℕ
  m = (sizes_of f₁).m

  abbrev fs : List Format
  fs = formats_of (sizes_of f₁)

  abbrev place : ℕ
  place = first_place f₁ f₂

  -- what an accepted opening tells of the files
  told : Accepted f₁ × (m ≡ (sizes_of f₂).m)
  told = let c = comparable f₁ f₂ pair in (c.sound₁, ap (λ (z : Sizes). z.m) c.same)

  pub stopped : StopInRange f₁ f₂
  stopped = let r = stop-range f₁ f₂ in record { low = r.1 (file-grid-least f₁ told.0); high = r.0 }

  on_grid : OnGrid m fs (steps_of f₁) (steps_of f₂)
  on_grid = grid_theorem m fs (steps_of f₁) (steps_of f₂)

  -- the files' outputs are equal where the theorem's are
  same-outputs : (x : List ℤ) → (output_of f₁ x ≡ output_of f₂ x) ↔ Agree m (steps_of f₁) (steps_of f₂) x
  unfolding output_of
  same-outputs x = rw (← told.1) ((λ e. e), (λ e. e))

  -- no place of the grid differs
  all-equal : grid_size (sizes_of f₁) ≤ place → (x : List ℤ) → FullWidth f₁ x → output_of f₁ x ≡ output_of f₂ x
  unfolding grid_size axes_of lows_of first_place
  all-equal p x b =
      let none : place ≡ grid_size (sizes_of f₁) = omega (arith, place-most f₁ f₂) in
      (same-outputs x).1 (on_grid.none none x b)

  -- some place does
  at-stop : place < grid_size (sizes_of f₁) → grid_vector (sizes_of f₁) place ≡ stop_vector f₁ f₂
  at-stop p = ap (grid_vector (sizes_of f₁)) (omega (arith, stop-differs f₁ f₂ p))

  first-differs : place < grid_size (sizes_of f₁) → IsFirst m fs (steps_of f₁) (steps_of f₂) (stop_vector f₁ f₂)
  unfolding grid_size grid_vector axes_of lows_of first_place
  first-differs p = subst (IsFirst m fs (steps_of f₁) (steps_of f₂)) (at-stop p) (on_grid.some p).1

  pub settled : (a : Answer) → Verdict f₁ f₂ a → Settled f₁ f₂ a
  unfolding plain_answer differs_answer
  settled a (equivalent n p e) =
      rw e
      (record {
        equivalent = (λ _. all-equal p, λ _. refl);
        differs = λ d. absurd (let q : ◌≡◌ {A = ℕ} 0 1 = cc in omega arith);
      })
  settled a (differs n p e) =
      let first = first-differs p in
      rw (e, at-stop p)
      (record {
        equivalent = (
          λ d. absurd (let q : ◌≡◌ {A = ℕ} 0 1 = cc in omega arith),
          λ all. absurd (first.differs ((same-outputs _).0 (all (stop_vector f₁ f₂) first.full_width))),
        );
        differs = λ _.
            let place : stop f₁ f₂ - 1 < grid_size (sizes_of f₁) = omega (arith, stop-differs f₁ f₂ p) in
            let words = each_grid_words (sizes_of f₁) (length-widths f₁) (file-ruled f₁ told.0) (stop f₁ f₂ - 1) place in
            record { place = place; first = first; integers = words.integers; vector = refl; output₁ = refl; output₂ = refl };
      })
