-- The vectors that are run are on the grid: those at its places are, by the digits of a place, and the lowest values are, since each axis is at
-- least 1. Lanes that are set to vectors of the grid are on it, with the others on it already.
-- Assumes nothing.
use mathlib.Core.List.{List}
use mathlib.Core.Path.{◌≡◌, sym, ◌∙◌, ap, subst}
use Prim.Native.Nat.{ℕ, ◌+◌, ◌%◌, ◌^◌, ◌≤◌, ◌<◌}
use native.Mathlib.Decide.{dec_lt}
use native.Mathlib.Nat.{mod-eq_of_lt}
use native.Mathlib.Omega.{arith}
use lib.ListN.{length, get_or, take}
use Rattle.file.specs.Accepted.{Accepted}
use Rattle.fields.specs.File.{sizes_of}
use Rattle.grid.specs.Grid.{axes_of, grid_size}
use Rattle.lanes.specs.Lanes.{LanesOnGrid}
use Rattle.places.specs.Places.{size, digits_at}
use Rattle.places.proofs.Places.{one_to_one, length_digits}
use Rattle.plan.specs.Plan.{Planned}
use Rattle.plan.specs.declared.Plan.{Plan}
use Rattle.plan.proofs.Axes.{length-file-axes, length-file-lows, low-word-small, file-grid-least}
use Rattle.plan.proofs.Numbers.{grid, lowest}
use Rattle.sizes.specs.Padded.{padded}
use Rattle.sizes.specs.Sizes.{max_inputs}
use Rattle.sizes.proofs.Padded.{length-padded, padded-entry}
use Rattle.vectors.specs.Vectors.{low_words, held_at, GridWord}
use Rattle.vectors.proofs.Digits.{below_at}
use Rattle.vectors.proofs.Raised.{raised-entry}
use Rattle.batches.specs.Batch.{LanesSet, Lowest, DeadOnGrid}

module _ (s : List ℕ) (a : Accepted s) where
  -- an entry of the words at a place, past the last axis too
  pub held-entry :
      (us : List ℕ) (p i : ℕ) → length us ≤ max_inputs → i < max_inputs →
      get_or (held_at (padded (low_words (sizes_of s))) us p) i 0 ≡ (get_or (low_words (sizes_of s)) i 0 + get_or (digits_at us p) i 0) % 2 ^ 64
  unfolding held_at
  held-entry us p i few h =
      let lows = length-file-lows s a in
      let long = length-padded (digits_at us p) (omega (arith, length_digits us p)) in
      raised-entry (padded (low_words (sizes_of s))) (padded (digits_at us p)) i (lows ∙ sym long) (omega (arith, lows))
      ∙ ap (λ n. (n + get_or (padded (digits_at us p)) i 0) % 2 ^ 64) (padded-entry (low_words (sizes_of s)) i)
      ∙ ap (λ n. (get_or (low_words (sizes_of s)) i 0 + n) % 2 ^ 64) (padded-entry (digits_at us p) i)

  grid-first : 0 < size (axes_of (sizes_of s))
  unfolding grid_size
  grid-first = file-grid-least s a

  digit-below : (p : ℕ) → p < size (axes_of (sizes_of s)) → (i : ℕ) → i < (sizes_of s).d → get_or (digits_at (axes_of (sizes_of s)) p) i 0 < get_or (axes_of (sizes_of s)) i 0
  digit-below p h i g =
      below_at (axes_of (sizes_of s)) (digits_at (axes_of (sizes_of s)) p) i ((one_to_one (axes_of (sizes_of s))).below p h) (omega (arith, length-file-axes s a))

  -- each axis is at least 1
  pub file-axis-least : (i : ℕ) → i < (sizes_of s).d → 0 < get_or (axes_of (sizes_of s)) i 0
  file-axis-least i g = omega (arith, digit-below 0 grid-first i g)

  -- the vector at a place
  pub place_on_grid :
      (p : ℕ) → p < size (axes_of (sizes_of s)) → (i : ℕ) → i < (sizes_of s).d →
      GridWord (sizes_of s) i (get_or (held_at (padded (low_words (sizes_of s))) (axes_of (sizes_of s)) p) i 0)
  place_on_grid p h i g =
      record {
        count = get_or (digits_at (axes_of (sizes_of s)) p) i 0;
        below = digit-below p h i g;
        above = held-entry (axes_of (sizes_of s)) p i (omega (arith, length-file-axes s a, a.inputs_high)) (omega (arith, a.inputs_high));
      }

  -- a lowest value
  pub low_on_grid : (i : ℕ) → i < (sizes_of s).d → (w : ℕ) → w ≡ get_or (padded (low_words (sizes_of s))) i 0 → GridWord (sizes_of s) i w
  low_on_grid i g w e =
      record {
        count = 0;
        below = file-axis-least i g;
        above = e ∙ padded-entry (low_words (sizes_of s)) i ∙ sym (ap (λ n. n % 2 ^ 64) none ∙ mod-eq_of_lt (low-word-small s a i));
      }
    where
      none : get_or (low_words (sizes_of s)) i 0 + 0 ≡ get_or (low_words (sizes_of s)) i 0
      none = omega arith

-- of two comparable files
pub same-grid : (w : ℕ) (s₁ s₂ inputs : List ℕ) → sizes_of s₁ ≡ sizes_of s₂ → LanesOnGrid w s₁ inputs → LanesOnGrid w s₂ inputs
same-grid w s₁ s₂ inputs e g = rw (← e) g

pub lanes_on_grid :
    {w : ℕ} {s₁ s₂ : List ℕ} {g : Plan} → Planned s₁ s₂ g → (p live : ℕ) (before after : List ℕ) → p + live ≤ size (take g.d g.axes) →
    LanesSet w g.lows (take g.d g.axes) p live before after → DeadOnGrid w s₁ live before → LanesOnGrid w s₁ after
lanes_on_grid {s₁ = s₁} k p live before after inside w on i l h t =
    elim (dec_lt l live) [
      | yes set ↦
          let place : p + l < size (axes_of (sizes_of s₁)) = omega (arith, ap size (grid k)) in
          subst (GridWord (sizes_of s₁) i) (sym (rw (grid k, lowest k) at (w.set i l (omega (arith, h, k.files.sound₁.inputs_high)) set)))
          (place_on_grid s₁ k.files.sound₁ (p + l) place i h)
      | no past ↦ subst (GridWord (sizes_of s₁) i) (sym (w.others i l (omega arith) t)) (on i l h (omega arith) t)
    ]

-- lanes that hold the lowest values
pub lowest_on_grid :
    {w d : ℕ} {s₁ s₂ : List ℕ} {g : Plan} (inputs : List ℕ) → Planned s₁ s₂ g → d ≡ (sizes_of s₁).d → Lowest w d g.lows inputs → LanesOnGrid w s₁ inputs
lowest_on_grid {s₁ = s₁} inputs k e low i l h t =
    low_on_grid s₁ k.files.sound₁ i h _ (low i l (omega (arith, e)) t ∙ ap (λ v. get_or v i 0) (lowest k))
