-- Opening and continuing give the number of the first condition that holds: each test before it passes, and its own does not.
-- Assumes nothing.
use mathlib.Core.Bool.{true, false, not, not-eq-not}
use mathlib.Core.List.{List}
use mathlib.Core.Path.{◌≡◌, refl, ◌∙◌, ap}
use Prim.Native.Nat.{ℕ, ◌≤◌, ◌<◌}
use native.Mathlib.Omega.{arith}
use lib.ListN.{length}
use borrow.Author.Tests.{lt-ltb, le-ltb, eq-eqb, ne_eqb, not-false}
use Rattle.engine.specs.Engine.{larger_count, Comparable}
use Rattle.fields.specs.File.{sizes_of}
use Rattle.file.proofs.Accepted.{accepted}
use Rattle.file.proofs.Sound.{number_0}
use Rattle.grid.specs.Grid.{grid_size}
use Rattle.fields.proofs.Heads.{length-widths}
use Rattle.sizes.specs.Sizes.{max_inputs, refused_by, is_refusal}
use Rattle.sizes.specs.declared.Sizes.{Sizes}
use Rattle.sizes.proofs.Ranges.{within-range}
use Rattle.sizes.proofs.Ruled.{range-within}
use Rattle.sessions.specs.Order.{OpenInOrder, ContinueInOrder, AnswerCarries}
use Rattle.sessions.specs.Session.{same_sizes, pair_refusal, opened, misplaced, is_closed, state_refusal, continue_refusal}
use Rattle.sessions.specs.Taken.{CallTaken}
use Rattle.sessions.specs.declared.Mark.{Mark}
use Rattle.sessions.specs.declared.Mark.TheVariants.{Open, Equal, Differ}
use Rattle.sessions.specs.declared.Session.{Session}
use Rattle.sessions.proofs.Carried.{carried}
use Rattle.sessions.proofs.Pair.{pair-first, pair-second, pair_9, same-equal, same_refl, pair-taken, comparable}

-- other sizes fail the test
other_sizes : (z w : Sizes) → length z.widths ≡ max_inputs → length w.widths ≡ max_inputs → ¬ (z ≡ w) → same_sizes z w ≡ false
other_sizes z w lz lw n = not-eq-not.0 (λ e. n (same-equal z w lz lw e))

pub open_in_order : OpenInOrder
unfolding opened
open_in_order s₁ s₂ =
    record {
      file₁ = λ n. pair-first s₁ s₂ (λ e. n (accepted s₁ e));
      file₂ = λ a n. pair-second s₁ s₂ (number_0 s₁ a) (λ e. n (accepted s₂ e));
      sizes = λ a b n.
          pair_9 s₁ s₂ (number_0 s₁ a) (number_0 s₂ b) (other_sizes _ _ (length-widths s₁) (length-widths s₂) n);
    }

-- 102, mark by mark
module _ (G p : ℕ) where
  misplaced_open : G ≤ p → misplaced G p Open ≡ true
  unfolding misplaced
  misplaced_open l = ap not (le-ltb p G l)

  misplaced-equal : ¬ (p ≡ G) → misplaced G p Equal ≡ true
  unfolding misplaced
  misplaced-equal n = ap not (ne_eqb p G n)

  misplaced-differ : ¬ ((1 ≤ p) × (p ≤ G)) → misplaced G p Differ ≡ true
  unfolding misplaced
  misplaced-differ n = not-eq-not.0 (λ e. n (within-range 1 G p (not-false _ e)))

  placed-equal : p ≡ G → misplaced G p Equal ≡ false
  unfolding misplaced
  placed-equal e = ap not (eq-eqb p G e)

  placed-differ : 1 ≤ p → p ≤ G → misplaced G p Differ ≡ false
  unfolding misplaced
  placed-differ l h = ap not (range-within 1 G p l h)

module _ (s₁ s₂ : List ℕ) (σ : Session) (B len : ℕ) where
  refused-files : ¬ Comparable s₁ s₂ → is_refusal (pair_refusal s₁ s₂) ≡ true
  refused-files n = not-eq-not.0 (λ e. n (comparable s₁ s₂ e))

  by-budget : B ≡ 0 → continue_refusal s₁ s₂ σ B len ≡ refused_by 11
  unfolding continue_refusal
  by-budget e = rw (eq-eqb B 0 e)

  by-files : 1 ≤ B → ¬ Comparable s₁ s₂ → continue_refusal s₁ s₂ σ B len ≡ pair_refusal s₁ s₂
  unfolding continue_refusal
  by-files b n = rw (ne_eqb B 0 (λ e. omega arith), refused-files n)

  by-room : 1 ≤ B → Comparable s₁ s₂ → len < larger_count s₁ s₂ → continue_refusal s₁ s₂ σ B len ≡ refused_by 12
  unfolding continue_refusal
  by-room b c l = rw (ne_eqb B 0 (λ e. omega arith), pair-taken s₁ s₂ c, lt-ltb len (larger_count s₁ s₂) l)

  module _ (c : CallTaken s₁ s₂ B len) where
    abbrev G : ℕ
    G = grid_size (sizes_of s₁)

    by_state : continue_refusal s₁ s₂ σ B len ≡ state_refusal (sizes_of s₁) G σ
    unfolding continue_refusal
    by_state = rw (ne_eqb B 0 (λ e. omega (arith, c.budget)), pair-taken s₁ s₂ c.files, le-ltb len (larger_count s₁ s₂) c.room)

    by-sizes : same_sizes σ.sizes (sizes_of s₁) ≡ false → continue_refusal s₁ s₂ σ B len ≡ refused_by 101
    unfolding state_refusal
    by-sizes e = by_state ∙ rw e

    module _ (same : σ.sizes ≡ sizes_of s₁) where
      by-position : (mark : Mark) → σ.mark ≡ mark → misplaced G σ.position mark ≡ true → continue_refusal s₁ s₂ σ B len ≡ refused_by 102
      unfolding state_refusal
      by-position mark e m = by_state ∙ rw (same, same_refl, e, m)

      by-mark :
          (mark : Mark) → σ.mark ≡ mark → misplaced G σ.position mark ≡ false → is_closed mark ≡ true →
          continue_refusal s₁ s₂ σ B len ≡ refused_by 103
      unfolding state_refusal
      by-mark mark e m closed = by_state ∙ rw (same, same_refl, e, m, closed)

pub continue_in_order : ContinueInOrder
unfolding opened is_closed
continue_in_order s₁ s₂ σ B len long =
    record {
      budget = by-budget s₁ s₂ σ B len;
      files = by-files s₁ s₂ σ B len;
      room = by-room s₁ s₂ σ B len;
      sizes = λ c n. by-sizes s₁ s₂ σ B len c (other_sizes _ _ long (length-widths s₁) n);
      open_past = λ c z m l. by-position s₁ s₂ σ B len c z Open m (misplaced_open _ _ l);
      equal_elsewhere = λ c z m n. by-position s₁ s₂ σ B len c z Equal m (misplaced-equal _ _ n);
      differ-outside = λ c z m n. by-position s₁ s₂ σ B len c z Differ m (misplaced-differ _ _ n);
      closed-equal = λ c z m e. by-mark s₁ s₂ σ B len c z Equal m (placed-equal _ _ e) refl;
      closed-differ = λ c z m l h. by-mark s₁ s₂ σ B len c z Differ m (placed-differ _ _ l h) refl;
    }

pub answer_carries : AnswerCarries
answer_carries = carried
