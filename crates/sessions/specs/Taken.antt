-- Which calls opening and continuing take, as orders and equations, with no test in them. Each statement is proved in proofs/Taken, but for
-- EachFullWidthTaken, which is in proofs/FullWidth.
--   OpenExactly       opening answers the number 0 exactly where both files are accepted and have the same sizes
--   FullWidthTaken s  of an accepted file s, evaluating takes just the full-width vectors, of which demand 3 speaks:
--     taken       d words are taken exactly where they give a full-width vector
--     each        the words of every full-width vector are taken, and give it
--   CallTaken s₁ s₂ B len   what a continue call asks of all but its session:
--     budget      the budget is not 0
--     files       both files are accepted, and have the same sizes
--     room        the scratch slice has as many entries as the larger N
--   ContinueTaken     what it asks in all:
--     call        the above
--     sizes       the session's sizes are the files'
--     mark        it is open
--     position    its position is below G
--   ContinueExactly   continuing answers the number 0 exactly there, of sessions with a width byte for each input that a file may have
use Rattle.std.specs.Prelude.{List, map, ◌↔◌, ◌≡◌, ℕ, ◌≤◌, ◌<◌, ℤ, length}
use Rattle.engine.specs.Engine.{larger_count, Comparable}
use Rattle.evaluate.specs.Evaluate.{vector_of}
use Rattle.evaluate.specs.Taken.{FullVector}
use Rattle.fields.specs.File.{sizes_of}
use Rattle.file.specs.Accepted.{Accepted}
use Rattle.grid.specs.Grid.{grid_size}
use Rattle.sizes.specs.Sizes.{max_inputs}
use Rattle.words.specs.Words.{word}
use Rattle.sessions.specs.Demand3.{FullWidth}
use Rattle.sessions.specs.Session.{opened, continued}
use Rattle.sessions.specs.declared.Mark.TheVariants.{Open}
use Rattle.sessions.specs.declared.Session.{Session}

abbrev pub OpenExactly : Type 0
OpenExactly = (s₁ s₂ : List ℕ) → ((opened s₁ s₂).refusal.number ≡ 0) ↔ Comparable s₁ s₂

pub record FullWidthTaken (s : List ℕ) : Type 0 where
  pub taken :
      (ws : List ℕ) → length ws ≡ (sizes_of s).d → FullVector (sizes_of s) ws ↔ FullWidth s (vector_of (sizes_of s) ws)
  pub each :
      (x : List ℤ) → FullWidth s x → FullVector (sizes_of s) (map word x) × (vector_of (sizes_of s) (map word x) ≡ x)

abbrev pub EachFullWidthTaken : Type 0
EachFullWidthTaken = (s : List ℕ) → Accepted s → FullWidthTaken s

pub record CallTaken (s₁ s₂ : List ℕ) (B len : ℕ) : Type 0 where
  pub budget : 1 ≤ B
  pub files : Comparable s₁ s₂
  pub room : larger_count s₁ s₂ ≤ len

pub record ContinueTaken (s₁ s₂ : List ℕ) (σ : Session) (B len : ℕ) : Type 0 where
  pub call : CallTaken s₁ s₂ B len
  pub sizes : σ.sizes ≡ sizes_of s₁
  pub mark : σ.mark ≡ Open
  pub position : σ.position < grid_size (sizes_of s₁)

abbrev pub ContinueExactly : Type 0
ContinueExactly =
    (s₁ s₂ : List ℕ) (σ : Session) (B len : ℕ) → length σ.sizes.widths ≡ max_inputs →
    ((continued s₁ s₂ σ B len).answer.refusal.number ≡ 0) ↔ ContinueTaken s₁ s₂ σ B len
