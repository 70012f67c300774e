-- Demand 3, as one claim about a whole list of continue calls (document 01, 'Sessions'). It is proved in proofs/Demand3.
--   OwnFiles f₁ f₂ c     the call c has these two files in this order
--   Allowed f₁ f₂ σ cs   each call of the list, from the session σ on, has these files in this order, or is refused where it stands
--   stop f₁ f₂           D: one more than the place of the first grid vector at which the outputs differ, or G where there is none
--   StopInRange f₁ f₂    D is from 1 to G
--   Whole f₁ f₂ cs       what holds after the list cs, which starts from the session that opening gave:
--     stopped      the stop is from 1 to G
--     refused      a call with these files in this order is refused exactly when its budget is 0, its scratch slice is too short, or the
--                  accepted budgets before it add up to D or more
--     run          the vectors run add up to the smaller of S and D
--     position     and the position is that number
--     unfinished   S is below D: the mark is open, and no call has given a verdict
--     finished     otherwise: exactly one call has given a verdict, every later one was refused, and the mark is the verdict's
--   Settled f₁ f₂ a      of the verdict: it is equivalent exactly where the outputs are equal at every full-width vector; if it is differs,
--                        it shows the first difference
--   ShowsFirst f₁ f₂ a   place D − 1 is below G; the grid's vector there is the first of all full-width vectors at which the outputs differ;
--                        the answer's words give this vector, and are its words with 0 past the last input; it shows the two files' outputs
--                        there
use Rattle.std.specs.Prelude.{◌≡◌, cond, ◌⊎◌, ◌↔◌, List, [], ◌∷◌, ◌++◌, map, ℕ, ◌+◌, ◌-◌, ◌<◌, ◌≤◌, min, ltb, ℤ}
use Rattle.engine.specs.Engine.{larger_count}
use Rattle.evaluate.specs.Evaluate.{output_of, vector_of}
use Rattle.fields.specs.File.{sizes_of}
use Rattle.fields.specs.Steps.{steps_of}
use Rattle.formats.specs.Formats as Formats
use Rattle.grid.specs.Grid.{axes_of, lows_of, grid_size, grid_vector}
use Rattle.grid_theorem.specs.Comparison.{first_difference, IsFirst}
use Rattle.sessions.specs.Calls.{Call, answer_to, session_after, answers, IsRefused, IsVerdict, budgets, vectors_run, Each}
use Rattle.sizes.specs.Padded.{padded}
use Rattle.sizes.specs.Sizes.{formats_of}
use Rattle.words.specs.Words.{word}
use Rattle.sessions.specs.Session.{opened}
use Rattle.sessions.specs.declared.Answer.{Answer}
use Rattle.sessions.specs.declared.Mark.{Mark}
use Rattle.sessions.specs.declared.Mark.TheVariants.{Open, Equal, Differ}
use Rattle.sessions.specs.declared.Kind.TheVariants.{Equivalent, Differs}
use Rattle.sessions.specs.declared.Session.{Session}

pub record OwnFiles (f₁ f₂ : List ℕ) (c : Call) : Type 0 where
  pub first : c.file₁ ≡ f₁
  pub second : c.file₂ ≡ f₂

abbrev pub Allowed : List ℕ → List ℕ → Session → List Call → Type 0
Allowed f₁ f₂ σ [] = Unit {0}
Allowed f₁ f₂ σ (c ∷ cs) = (OwnFiles f₁ f₂ c ⊎ IsRefused (answer_to σ c).answer) × Allowed f₁ f₂ (answer_to σ c).session cs

-- the place of the first grid vector at which the outputs differ, or G
unfoldable pub first_place : List ℕ → List ℕ → ℕ
first_place f₁ f₂ =
    first_difference (sizes_of f₁).m (lows_of (sizes_of f₁)) (axes_of (sizes_of f₁)) (steps_of f₁) (steps_of f₂)

unfoldable pub stop : List ℕ → List ℕ → ℕ
stop f₁ f₂ = cond (ltb (first_place f₁ f₂) (grid_size (sizes_of f₁))) (first_place f₁ f₂ + 1) (grid_size (sizes_of f₁))

-- x is a full-width vector of the files, whose sizes are the same
abbrev pub FullWidth : List ℕ → List ℤ → Type 0
FullWidth f₁ x = Formats.FullWidth (formats_of (sizes_of f₁)) x

-- the grid's vector at place D − 1
abbrev pub stop_vector : List ℕ → List ℕ → List ℤ
stop_vector f₁ f₂ = grid_vector (sizes_of f₁) (stop f₁ f₂ - 1)

pub record StopInRange (f₁ f₂ : List ℕ) : Type 0 where
  pub low : 1 ≤ stop f₁ f₂
  pub high : stop f₁ f₂ ≤ grid_size (sizes_of f₁)

pub record ShowsFirst (f₁ f₂ : List ℕ) (a : Answer) : Type 0 where
  pub place : stop f₁ f₂ - 1 < grid_size (sizes_of f₁)
  pub first : IsFirst (sizes_of f₁).m (formats_of (sizes_of f₁)) (steps_of f₁) (steps_of f₂) (stop_vector f₁ f₂)
  pub integers : vector_of (sizes_of f₁) a.vector ≡ stop_vector f₁ f₂
  pub vector : a.vector ≡ padded (map word (stop_vector f₁ f₂))
  pub output₁ : a.output1 ≡ output_of f₁ (stop_vector f₁ f₂)
  pub output₂ : a.output2 ≡ output_of f₂ (stop_vector f₁ f₂)

pub record Settled (f₁ f₂ : List ℕ) (a : Answer) : Type 0 where
  pub equivalent : (a.kind ≡ Equivalent) ↔ ((x : List ℤ) → FullWidth f₁ x → output_of f₁ x ≡ output_of f₂ x)
  pub differs : a.kind ≡ Differs → ShowsFirst f₁ f₂ a

-- the mark is the verdict's: equal after equivalent, differ after differs
pub record MarkOf (a : Answer) (mark : Mark) : Type 0 where
  pub equal : a.kind ≡ Equivalent → mark ≡ Equal
  pub differ : a.kind ≡ Differs → mark ≡ Differ

-- of the calls cs, from the session σ on, exactly one gives a verdict
pub record Finished (f₁ f₂ : List ℕ) (σ : Session) (cs : List Call) : Type 0 where
  pub before : List Call
  pub call : Call
  pub after : List Call
  pub split : cs ≡ before ++ call ∷ after
  pub none_before : Each (λ a. ¬ IsVerdict a) (answers σ before)
  pub verdict : IsVerdict (answer_to (session_after σ before) call).answer
  pub settled : Settled f₁ f₂ (answer_to (session_after σ before) call).answer
  pub refused-after : Each (λ a. IsRefused a × (¬ IsVerdict a)) (answers (answer_to (session_after σ before) call).session after)
  pub marked : MarkOf (answer_to (session_after σ before) call).answer (session_after σ cs).mark

-- the session that opening gave
abbrev pub start : List ℕ → List ℕ → Session
start f₁ f₂ = (opened f₁ f₂).session

pub record Whole (f₁ f₂ : List ℕ) (cs : List Call) : Type 0 where
  pub stopped : StopInRange f₁ f₂
  pub refused :
      (before : List Call) (c : Call) (after : List Call) →
      cs ≡ before ++ c ∷ after →
      OwnFiles f₁ f₂ c →
      IsRefused (answer_to (session_after (start f₁ f₂) before) c).answer ↔
      ((c.budget ≡ 0) ⊎ ((c.scratch < larger_count f₁ f₂) ⊎ (stop f₁ f₂ ≤ budgets (start f₁ f₂) before)))
  pub run : vectors_run (answers (start f₁ f₂) cs) ≡ min (budgets (start f₁ f₂) cs) (stop f₁ f₂)
  pub position : (session_after (start f₁ f₂) cs).position ≡ min (budgets (start f₁ f₂) cs) (stop f₁ f₂)
  pub unfinished :
      budgets (start f₁ f₂) cs < stop f₁ f₂ →
      ((session_after (start f₁ f₂) cs).mark ≡ Open) × Each (λ a. ¬ IsVerdict a) (answers (start f₁ f₂) cs)
  pub finished : stop f₁ f₂ ≤ budgets (start f₁ f₂) cs → Finished f₁ f₂ (start f₁ f₂) cs

abbrev pub Demand3 : Type 0
Demand3 =
    (f₁ f₂ : List ℕ) →
    (opened f₁ f₂).refusal.number ≡ 0 →
    (cs : List Call) →
    Allowed f₁ f₂ (start f₁ f₂) cs →
    Whole f₁ f₂ cs
