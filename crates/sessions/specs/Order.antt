-- Which number opening and continuing give, and in which order they judge, as orders and equations, with no test in them. Each statement is
-- proved in proofs/Order. Which calls are accepted is in specs/Taken.
--   OpenOrder s₁ s₂ r       r is what opening is refused by:
--     file₁     file 1 is not accepted: by what it is refused by
--     file₂     file 1 is accepted, and file 2 is not: by what this is refused by
--     sizes     both are accepted, and differ in m, d or a width byte: by 9
--   OpenInOrder             so opening judges
--   ContinueOrder s₁ s₂ σ B len r   r is what continuing is refused by:
--     budget            the budget is 0: by 11
--     files             else, opening refuses the files: by the same
--     room              else, the scratch slice has fewer entries than the larger N: by 12
--     sizes             else, the session's sizes are not the files': by 101
--     open_past         else, it is open and its position is not below G: by 102
--     equal_elsewhere   else, it is marked equal and its position is not G: by 102
--     differ-outside    else, it is marked differ and its position is not 1 to G: by 102
--     closed-equal      else, it is marked equal: by 103
--     closed-differ     else, it is marked differ: by 103
--   ContinueInOrder         so continuing judges, of sessions with a width byte for each input that a file may have
--   AnswerCarries           a continue call's answer carries what it is refused by, or acceptance
use Rattle.std.specs.Prelude.{List, ◌≡◌, ℕ, ◌≤◌, ◌<◌, length}
use Rattle.engine.specs.Engine.{larger_count, Comparable}
use Rattle.fields.specs.File.{sizes_of}
use Rattle.file.specs.Accepted.{Accepted}
use Rattle.file.specs.Check.{refusal_of}
use Rattle.grid.specs.Grid.{grid_size}
use Rattle.sizes.specs.Sizes.{max_inputs, refused_by}
use Rattle.sizes.specs.declared.Refusal.{Refusal}
use Rattle.sessions.specs.Session.{opened, continue_refusal, continued}
use Rattle.sessions.specs.Taken.{CallTaken}
use Rattle.sessions.specs.declared.Mark.TheVariants.{Open, Equal, Differ}
use Rattle.sessions.specs.declared.Session.{Session}

pub record OpenOrder (s₁ s₂ : List ℕ) (r : Refusal) : Type 0 where
  pub file₁ : ¬ Accepted s₁ → r ≡ refusal_of 1 s₁
  pub file₂ : Accepted s₁ → ¬ Accepted s₂ → r ≡ refusal_of 2 s₂
  pub sizes : Accepted s₁ → Accepted s₂ → ¬ (sizes_of s₁ ≡ sizes_of s₂) → r ≡ refused_by 9

abbrev pub OpenInOrder : Type 0
OpenInOrder = (s₁ s₂ : List ℕ) → OpenOrder s₁ s₂ (opened s₁ s₂).refusal

pub record ContinueOrder (s₁ s₂ : List ℕ) (σ : Session) (B len : ℕ) (r : Refusal) : Type 0 where
  pub budget : B ≡ 0 → r ≡ refused_by 11
  pub files : 1 ≤ B → ¬ Comparable s₁ s₂ → r ≡ (opened s₁ s₂).refusal
  pub room : 1 ≤ B → Comparable s₁ s₂ → len < larger_count s₁ s₂ → r ≡ refused_by 12
  pub sizes : CallTaken s₁ s₂ B len → ¬ (σ.sizes ≡ sizes_of s₁) → r ≡ refused_by 101
  pub open_past :
      CallTaken s₁ s₂ B len → σ.sizes ≡ sizes_of s₁ → σ.mark ≡ Open →
      grid_size (sizes_of s₁) ≤ σ.position → r ≡ refused_by 102
  pub equal_elsewhere :
      CallTaken s₁ s₂ B len → σ.sizes ≡ sizes_of s₁ → σ.mark ≡ Equal →
      ¬ (σ.position ≡ grid_size (sizes_of s₁)) → r ≡ refused_by 102
  pub differ-outside :
      CallTaken s₁ s₂ B len → σ.sizes ≡ sizes_of s₁ → σ.mark ≡ Differ →
      ¬ ((1 ≤ σ.position) × (σ.position ≤ grid_size (sizes_of s₁))) → r ≡ refused_by 102
  pub closed-equal :
      CallTaken s₁ s₂ B len → σ.sizes ≡ sizes_of s₁ → σ.mark ≡ Equal →
      σ.position ≡ grid_size (sizes_of s₁) → r ≡ refused_by 103
  pub closed-differ :
      CallTaken s₁ s₂ B len → σ.sizes ≡ sizes_of s₁ → σ.mark ≡ Differ →
      1 ≤ σ.position → σ.position ≤ grid_size (sizes_of s₁) → r ≡ refused_by 103

abbrev pub ContinueInOrder : Type 0
ContinueInOrder =
    (s₁ s₂ : List ℕ) (σ : Session) (B len : ℕ) → length σ.sizes.widths ≡ max_inputs →
    ContinueOrder s₁ s₂ σ B len (continue_refusal s₁ s₂ σ B len)

abbrev pub AnswerCarries : Type 0
AnswerCarries =
    (s₁ s₂ : List ℕ) (σ : Session) (B len : ℕ) →
    (continued s₁ s₂ σ B len).answer.refusal ≡ continue_refusal s₁ s₂ σ B len
