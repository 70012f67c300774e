-- Demand 3 for a caller in C (document 01, 'Sessions'): one claim about a whole list of calls of corkbingo_continue on the session words that
-- corkbingo_open left. It is proved in proofs/, as demand3_in_c, from the library's demand 3.
--   stop f₁ f₂                D: one more than the place of the first grid vector at which the outputs differ, or G where there is none
--   WholeInC f₁ f₂ w cs       what holds after the list cs, which starts from the session words w of an accepted opening; S is `budgets`
--     stopped      D is from 1 to G
--     laid         a call returned 1 exactly where its answer slice had an answer's length: the session words were always right
--     refused      a call with these files in this order that returned 1 was refused exactly where its budget is 0, its scratch slice is
--                  too short, or the accepted budgets before it add up to D or more
--     run          the run words add up to the smaller of S and D
--     position     and the position word is that number
--     unfinished   S is below D: the mark word is 0, and no call has the kind word 2 or 3
--     finished     otherwise: exactly one call has
--   UnfinishedInC, FinishedInC    the last two
--   LaterInC c                of a call after the verdict: where it returned 1 it was refused, and its kind word is not 2 or 3
--   MarkedInC c w             the mark word is the verdict's: 1 after the kind word 2, 2 after 3
--   SettledInC f₁ f₂ c        the kind word is 2 exactly where the outputs are equal at every full-width vector; if it is 3, the answer shows
--                             the first difference
--   ShowsFirstInC f₁ f₂ c     place D − 1 is below G; the grid's vector there is the first of all full-width vectors at which the outputs differ;
--                             the first d vector words give that vector, and are its words; the others are 0; and the output words are the two
--                             files' outputs there
use Rattle.std.specs.Prelude.{List, ◌∷◌, ◌++◌, map, ◌⊎◌, ◌↔◌, ◌≡◌, ℕ, ◌+◌, ◌-◌, ◌<◌, ◌≤◌, min, ℤ, length, take, drop}
use Rattle.engine.specs.Engine.{larger_count}
use Rattle.evaluate.specs.Evaluate.{output_of, vector_of}
use Rattle.fields.specs.File.{sizes_of}
use Rattle.fields.specs.Steps.{steps_of}
use Rattle.grid.specs.Grid.{grid_size}
use Rattle.layouts.specs.Layout.{has, returned}
use Rattle.layouts.specs.Lengths.{word_at, at_number, at_position, at_mark, at_vector, at_output₁, at_output₂, answer_length}
use Rattle.session_calls.specs.SessionCalls.{OpenCall}
use Rattle.sessions.specs.Demand3.{stop, StopInRange, stop_vector, FullWidth}
use Rattle.sizes.specs.Sizes.{max_inputs, formats_of}
use Rattle.words.specs.Words.{word}
use Rattle.grid_theorem.specs.Comparison.{IsFirst}
use Rattle.callers.specs.Made.{Made, kind, Chain, left, Each, IsRefused, GivesVerdict, OwnFiles, Allowed, budgets, runs}

pub record ShowsFirstInC (f₁ f₂ : List ℕ) (c : Made) : Type 0 where
  pub place : stop f₁ f₂ - 1 < grid_size (sizes_of f₁)
  pub first : IsFirst (sizes_of f₁).m (formats_of (sizes_of f₁)) (steps_of f₁) (steps_of f₂) (stop_vector f₁ f₂)
  pub integers : vector_of (sizes_of f₁) (take (sizes_of f₁).d (drop at_vector c.answer')) ≡ stop_vector f₁ f₂
  pub vector : take (sizes_of f₁).d (drop at_vector c.answer') ≡ map word (stop_vector f₁ f₂)
  pub others : (i : ℕ) → (sizes_of f₁).d ≤ i → i < max_inputs → word_at c.answer' (at_vector + i) ≡ 0
  pub output₁ : word_at c.answer' at_output₁ ≡ output_of f₁ (stop_vector f₁ f₂)
  pub output₂ : word_at c.answer' at_output₂ ≡ output_of f₂ (stop_vector f₁ f₂)

pub record SettledInC (f₁ f₂ : List ℕ) (c : Made) : Type 0 where
  pub equivalent : (kind c ≡ 2) ↔ ((x : List ℤ) → FullWidth f₁ x → output_of f₁ x ≡ output_of f₂ x)
  pub differs : kind c ≡ 3 → ShowsFirstInC f₁ f₂ c

pub record MarkedInC (c : Made) (w : List ℕ) : Type 0 where
  pub equal : kind c ≡ 2 → word_at w at_mark ≡ 1
  pub differ : kind c ≡ 3 → word_at w at_mark ≡ 2

pub record LaterInC (c : Made) : Type 0 where
  pub refused : c.result ≡ 1 → IsRefused c
  pub silent : ¬ GivesVerdict c

pub record FinishedInC (f₁ f₂ w : List ℕ) (cs : List Made) : Type 0 where
  pub before : List Made
  pub call : Made
  pub after : List Made
  pub split : cs ≡ before ++ call ∷ after
  pub none_before : Each (λ c. ¬ GivesVerdict c) before
  pub verdict : GivesVerdict call
  pub settled : SettledInC f₁ f₂ call
  pub refused-after : Each LaterInC after
  pub marked : MarkedInC call (left w cs)

pub record UnfinishedInC (w : List ℕ) (cs : List Made) : Type 0 where
  pub mark : word_at (left w cs) at_mark ≡ 0
  pub silent : Each (λ c. ¬ GivesVerdict c) cs

pub record WholeInC (f₁ f₂ w : List ℕ) (cs : List Made) : Type 0 where
  pub stopped : StopInRange f₁ f₂
  pub laid : Each (λ c. c.result ≡ returned (has answer_length c.answer)) cs
  pub refused :
      (before : List Made) (c : Made) (after : List Made) →
      cs ≡ before ++ c ∷ after →
      OwnFiles f₁ f₂ c →
      c.result ≡ 1 →
      IsRefused c ↔
      ((c.budget ≡ 0) ⊎ ((length c.scratch < larger_count f₁ f₂) ⊎ (stop f₁ f₂ ≤ budgets before)))
  pub run : runs cs ≡ min (budgets cs) (stop f₁ f₂)
  pub position : word_at (left w cs) at_position ≡ min (budgets cs) (stop f₁ f₂)
  pub unfinished : budgets cs < stop f₁ f₂ → UnfinishedInC w cs
  pub finished : stop f₁ f₂ ≤ budgets cs → FinishedInC f₁ f₂ w cs

abbrev pub Demand3InC : Type 0
Demand3InC =
    (f₁ f₂ w₀ o w o' : List ℕ) →
    OpenCall f₁ f₂ w₀ o 1 w o' →
    word_at o' at_number ≡ 0 →
    (cs : List Made) →
    Chain w cs →
    Each (Allowed f₁ f₂) cs →
    WholeInC f₁ f₂ w cs
