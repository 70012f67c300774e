-- Opening and continuing a session (document 01, 'Sessions' and 'Refused because of the state').
--   same_sizes z w          m, d and all width bytes are the same
--   pair_refusal s₁ s₂      what both calls judge of two files: file 1, file 2, 9
--   opened s₁ s₂           what opening answers
--   misplaced G p mark     102. the position doesn't fit the mark
--   state_refusal           101, 102, 103
--   room_refusal            what a continue call is refused by where its budget and its files are accepted: 12, 101, 102, 103
--   continue_refusal        11, the files, 12, 101, 102, 103
--   advanced               an accepted call: the session handed back and the answer
--   continued              what continuing answers: the session handed back and the answer
--   continued_scratch       the scratch slice after a continue call
use Rattle.std.specs.Prelude.{Bool, true, false, not, cond, ◌&&◌, List, map, ℕ, ◌+◌, ◌-◌, min, leb, ltb, eqb, ℤ, length, get_or, replicate}
use Rattle.engine.specs.Engine.{outputs_differ, larger_count}
use Rattle.evaluate.specs.Evaluate.{output_of, short_scratch}
use Rattle.file.specs.Check.{file_number, refusal_of}
use Rattle.fields.specs.File.{sizes_of}
use Rattle.grid.specs.Grid.{grid_size, grid_vector}
use Rattle.ranges.specs.Search.{first, every}
use Rattle.sizes.specs.Sizes.{max_inputs, within, refused_by, accepted, is_refusal}
use Rattle.sizes.specs.declared.Refusal.{Refusal}
use Rattle.sizes.specs.declared.Sizes.{Sizes}
use Rattle.slices.specs.Slices.{cleared}
use Rattle.sizes.specs.Padded.{padded}
use Rattle.words.specs.Words.{word}
use Rattle.sessions.specs.declared.Answer.{Answer}
use Rattle.sessions.specs.declared.Continued.{Continued}
use Rattle.sessions.specs.declared.Mark.{Mark}
use Rattle.sessions.specs.declared.Mark.TheVariants.{Open, Equal, Differ}
use Rattle.sessions.specs.declared.Kind.{Kind}
use Rattle.sessions.specs.declared.Kind.TheVariants.{Refused, Spent, Equivalent, Differs}
use Rattle.sessions.specs.declared.Session.{Session}

unfoldable pub same_sizes : Sizes → Sizes → Bool
same_sizes z w =
    eqb z.m w.m && eqb z.d w.d &&
    every (λ (i : ℕ). eqb (get_or z.widths i 0) (get_or w.widths i 0)) 0 max_inputs

unfoldable pub pair_refusal : List ℕ → List ℕ → Refusal
pair_refusal s₁ s₂ =
    cond (not (eqb (file_number s₁) 0)) (refusal_of 1 s₁)
    (cond (not (eqb (file_number s₂) 0)) (refusal_of 2 s₂)
    (cond (not (same_sizes (sizes_of s₁) (sizes_of s₂))) (refused_by 9) accepted))

-- a session of zeros, marked open
unfoldable pub no_session : Session
no_session = record { sizes = record { m = 0; d = 0; widths = replicate max_inputs 0 }; position = 0; mark = Open }

-- what opening answers: the refusal, and the session
pub record Opened : Type 0 where
  pub refusal : Refusal
  pub session : Session

unfoldable pub opened : List ℕ → List ℕ → Opened
opened s₁ s₂ =
    record {
      refusal = pair_refusal s₁ s₂;
      session =
          cond (is_refusal (pair_refusal s₁ s₂)) no_session
          (record { sizes = sizes_of s₁; position = 0; mark = Open });
    }

-- open needs below G, equal needs G, differ needs 1 to G
unfoldable pub misplaced : ℕ → ℕ → Mark → Bool
misplaced G p Open = not (ltb p G)
misplaced G p Equal = not (eqb p G)
misplaced G p Differ = not (within 1 G p)

-- a verdict has been given
unfoldable pub is_closed : Mark → Bool
is_closed Open = false
is_closed Equal = true
is_closed Differ = true

-- 101. the session's m, d or width bytes are not the files', which are z. 102, on a grid of G vectors. 103. the mark is not open
unfoldable pub state_refusal : Sizes → ℕ → Session → Refusal
state_refusal z G σ =
    cond (not (same_sizes σ.sizes z)) (refused_by 101)
    (cond (misplaced G σ.position σ.mark) (refused_by 102)
    (cond (is_closed σ.mark) (refused_by 103) accepted))

abbrev pub room_refusal : List ℕ → List ℕ → Session → ℕ → Refusal
room_refusal s₁ s₂ σ len =
    cond (short_scratch (larger_count s₁ s₂) len) (refused_by 12)
    (state_refusal (sizes_of s₁) (grid_size (sizes_of s₁)) σ)

unfoldable pub continue_refusal : List ℕ → List ℕ → Session → ℕ → ℕ → Refusal
continue_refusal s₁ s₂ σ B len =
    cond (eqb B 0) (refused_by 11)
    (cond (is_refusal (pair_refusal s₁ s₂)) (pair_refusal s₁ s₂)
    (room_refusal s₁ s₂ σ len))

-- the answer that carries the refusal r
unfoldable pub refused_answer : Refusal → Answer
refused_answer r =
    record { refusal = r; kind = Refused; run = 0; vector = replicate max_inputs 0; output1 = 0; output2 = 0 }

-- an answer with no vector to show, after n vectors
unfoldable pub plain_answer : Kind → ℕ → Answer
plain_answer o n =
    record { refusal = accepted; kind = o; run = n; vector = replicate max_inputs 0; output1 = 0; output2 = 0 }

-- the answer that shows the vector x, as words, with both outputs, after n vectors
unfoldable pub differs_answer : List ℕ → List ℕ → List ℤ → ℕ → Answer
differs_answer s₁ s₂ x n =
    record {
      refusal = accepted;
      kind = Differs;
      run = n;
      vector = padded (map word x);
      output1 = output_of s₁ x;
      output2 = output_of s₂ x;
    }

-- the session σ at another position and under another mark
abbrev pub moved_to : Session → ℕ → Mark → Session
moved_to σ p mark = record { sizes = σ.sizes; position = p; mark = mark }

-- An accepted call from the session's position with budget B on a grid of G vectors, of which q is the first among the next B at which the
-- outputs differ, or the end of these where there is none
unfoldable pub progress : List ℕ → List ℕ → Session → ℕ → ℕ → ℕ → Continued
progress s₁ s₂ σ B G q =
    cond (ltb q (σ.position + min B (G - σ.position)))
    (record {
      session = moved_to σ (q + 1) Differ;
      answer = differs_answer s₁ s₂ (grid_vector (sizes_of s₁) q) (q + 1 - σ.position);
    })
    (cond (leb G (σ.position + B))
    (record { session = moved_to σ G Equal; answer = plain_answer Equivalent (G - σ.position) })
    (record { session = moved_to σ (σ.position + B) Open; answer = plain_answer Spent B }))

unfoldable pub advanced : List ℕ → List ℕ → Session → ℕ → Continued
advanced s₁ s₂ σ B =
    progress s₁ s₂ σ B (grid_size (sizes_of s₁))
    (first (outputs_differ s₁ s₂) σ.position (min B (grid_size (sizes_of s₁) - σ.position)))

unfoldable pub continued : List ℕ → List ℕ → Session → ℕ → ℕ → Continued
continued s₁ s₂ σ B len =
    cond (is_refusal (continue_refusal s₁ s₂ σ B len))
    (record { session = σ; answer = refused_answer (continue_refusal s₁ s₂ σ B len) })
    (advanced s₁ s₂ σ B)

unfoldable pub continued_scratch : List ℕ → List ℕ → Session → ℕ → List ℕ → List ℕ
continued_scratch s₁ s₂ σ B scratch =
    cond (is_refusal (continue_refusal s₁ s₂ σ B (length scratch))) scratch
    (cleared (larger_count s₁ s₂) scratch)
