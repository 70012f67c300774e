-- An accepted call from any position of a session, wherever it came from (document 01, 'Sessions'): which of the three kinds it is, by the
-- places of the grid from the position on.
--   AgreeFrom s₁ s₂ p q   the outputs agree at every place from p to before q
--   FromPosition s₁ s₂ σ B   the session σ with the budget B:
--     differs      place q is the first from the position on at which the outputs differ, and is among the next B: it is shown, the position
--                  becomes q + 1, and the mark differ
--     equivalent   none differs from the position on, and B reaches the end of the grid: the position becomes G, and the mark equal
--     spent        none of the next B differs, and more remain: the position grows by B, and the mark is open
--   FromAnyPosition      that is so of every session at a position below G. Proved in proofs/Position
use Rattle.std.specs.Prelude.{true, false, List, ◌≡◌, ℕ, ◌+◌, ◌-◌, ◌≤◌, ◌<◌}
use Rattle.engine.specs.Engine.{outputs_differ}
use Rattle.fields.specs.File.{sizes_of}
use Rattle.grid.specs.Grid.{grid_size, grid_vector}
use Rattle.sessions.specs.Session.{plain_answer, differs_answer, moved_to, advanced}
use Rattle.sessions.specs.declared.Kind.TheVariants.{Spent, Equivalent}
use Rattle.sessions.specs.declared.Mark.TheVariants.{Open, Equal, Differ}
use Rattle.sessions.specs.declared.Session.{Session}

abbrev pub AgreeFrom : List ℕ → List ℕ → ℕ → ℕ → Type 0
AgreeFrom s₁ s₂ p q = (i : ℕ) → p ≤ i → i < q → outputs_differ s₁ s₂ i ≡ false

pub record FromPosition (s₁ s₂ : List ℕ) (σ : Session) (B : ℕ) : Type 0 where
  pub differs :
      (q : ℕ) → σ.position ≤ q → q < σ.position + B → q < grid_size (sizes_of s₁) →
      outputs_differ s₁ s₂ q ≡ true → AgreeFrom s₁ s₂ σ.position q →
      advanced s₁ s₂ σ B ≡
      record {
        session = moved_to σ (q + 1) Differ;
        answer = differs_answer s₁ s₂ (grid_vector (sizes_of s₁) q) (q + 1 - σ.position);
      }
  pub equivalent :
      AgreeFrom s₁ s₂ σ.position (grid_size (sizes_of s₁)) → grid_size (sizes_of s₁) ≤ σ.position + B →
      advanced s₁ s₂ σ B ≡
      record {
        session = moved_to σ (grid_size (sizes_of s₁)) Equal;
        answer = plain_answer Equivalent (grid_size (sizes_of s₁) - σ.position);
      }
  pub spent :
      AgreeFrom s₁ s₂ σ.position (σ.position + B) → σ.position + B < grid_size (sizes_of s₁) →
      advanced s₁ s₂ σ B ≡ record { session = moved_to σ (σ.position + B) Open; answer = plain_answer Spent B }

abbrev pub FromAnyPosition : Type 0
FromAnyPosition =
    (s₁ s₂ : List ℕ) (σ : Session) (B : ℕ) → σ.position < grid_size (sizes_of s₁) → FromPosition s₁ s₂ σ B
