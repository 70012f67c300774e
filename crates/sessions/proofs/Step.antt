-- One continue call, from the session that accepted budgets of S in all have led to. A refused call keeps that session, runs no vector and
-- gives no verdict, whatever its files. A call on the files of an accepted opening is refused exactly where its budget is 0, its scratch
-- slice is too short or S has reached the stop: a session below the stop is open and at place S, a session at the stop is closed. An
-- accepted one runs from place S on, to the stop or to the end of its budget, since no place before the first difference differs.
-- Assumes nothing.
use mathlib.Core.Path.{◌≡◌, refl, sym, ◌∙◌, ap}
use mathlib.Core.Bool.{true, false, cond}
use mathlib.Core.Logic.{◌⊎◌, inl, inr, ⊎_elim, ◌↔◌}
use mathlib.Core.List.{List}
use Prim.Native.Nat.{ℕ, ◌+◌, ◌-◌, ◌<◌, ◌≤◌, min}
use native.Mathlib.Nat.{add-zero, le_refl}
use native.Mathlib.Decide.{dec_lt}
use native.Mathlib.Omega.{arith}
use lib.Dec.{ltb}
use borrow.Author.Tests.{lt-ltb, le-ltb, le-leb, lt-leb, eq-eqb, ne_eqb}
use Rattle.engine.specs.Engine.{outputs_differ, larger_count}
use Rattle.fields.specs.File.{sizes_of}
use Rattle.grid.specs.Grid.{grid_size, grid_vector}
use Rattle.ranges.specs.Search.{first}
use Rattle.ranges.proofs.Search.{first-most, first_found, first-before, first_unique, first_absent, true_or_false}
use Rattle.sizes.specs.Sizes.{accepted, is_refusal}
use Rattle.sizes.specs.declared.Refusal.{Refusal}
use Rattle.grid_theorem.specs.Comparison.{first_difference}
use Rattle.sessions.specs.Calls.{Call, answer_to, accepted_budget, IsRefused, IsVerdict}
use Rattle.sessions.specs.Demand3.{OwnFiles, first_place, stop}
use Rattle.sessions.specs.Session.{pair_refusal, misplaced, is_closed, state_refusal, continue_refusal, refused_answer, plain_answer, differs_answer, progress, advanced, continued}
use Rattle.sessions.specs.declared.Answer.{Answer}
use Rattle.sessions.specs.declared.Continued.{Continued}
use Rattle.sessions.specs.declared.Mark.{Mark}
use Rattle.sessions.specs.declared.Mark.TheVariants.{Open, Equal, Differ}
use Rattle.sessions.specs.declared.Kind.TheVariants.{Refused, Spent, Equivalent}
use Rattle.sessions.specs.declared.Session.{Session}
use Rattle.sessions.proofs.Carried.{carried}
use Rattle.sessions.proofs.Pair.{same_refl}

-- neither refused nor spent is a verdict
no_verdict : (a : Answer) → (a.kind ≡ Refused) ⊎ (a.kind ≡ Spent) → ¬ IsVerdict a
no_verdict a (inl o) (inl e) = let q : ◌≡◌ {A = ℕ} 0 1 = cc in omega arith
no_verdict a (inl o) (inr e) = let q : ◌≡◌ {A = ℕ} 0 1 = cc in omega arith
no_verdict a (inr o) (inl e) = let q : ◌≡◌ {A = ℕ} 0 1 = cc in omega arith
no_verdict a (inr o) (inr e) = let q : ◌≡◌ {A = ℕ} 0 1 = cc in omega arith

module _ (σ : Session) (c : Call) where
  abbrev pub refusal : Refusal
  refusal = continue_refusal c.file₁ c.file₂ σ c.budget c.scratch

  -- a refused call keeps the session
  pub kept : is_refusal refusal ≡ true → answer_to σ c ≡ record { session = σ; answer = refused_answer refusal }
  unfolding answer_to continued advanced
  kept e = rw e

  -- the answer is a refusal exactly where a condition refuses the call
  pub answer-refusal : is_refusal (answer_to σ c).answer.refusal ≡ is_refusal refusal
  unfolding answer_to
  answer-refusal = ap is_refusal (carried c.file₁ c.file₂ σ c.budget c.scratch)

module _ (f₁ f₂ : List ℕ) where
  abbrev G : ℕ
  G = grid_size (sizes_of f₁)

  abbrev D : ℕ
  D = stop f₁ f₂

  abbrev place : ℕ
  place = first_place f₁ f₂

  -- the mark after accepted budgets of S in all
  pub mark_at : ℕ → Mark
  mark_at S = cond (ltb S D) Open (cond (ltb place G) Differ Equal)

  pub mark_open : (S : ℕ) → S < D → mark_at S ≡ Open
  unfolding mark_at
  mark_open S l = rw (lt-ltb S D l)

  pub mark-differ : (S : ℕ) → D ≤ S → place < G → mark_at S ≡ Differ
  unfolding mark_at
  mark-differ S l p = rw (le-ltb S D l, lt-ltb place G p)

  pub mark-equal : (S : ℕ) → D ≤ S → G ≤ place → mark_at S ≡ Equal
  unfolding mark_at
  mark-equal S l p = rw (le-ltb S D l, le-ltb place G p)

  -- the session σ is the one that accepted budgets of S in all have led to
  pub record At (S : ℕ) (σ : Session) : Type 0 where
    pub sizes : σ.sizes ≡ sizes_of f₁
    pub position : σ.position ≡ min S D
    pub mark : σ.mark ≡ mark_at S

  -- the answer a that gives the verdict, after n vectors
  pub data Verdict (a : Answer) : Type 0 where
    differs : (n : ℕ) → place < G → a ≡ differs_answer f₁ f₂ (grid_vector (sizes_of f₁) place) n → Verdict a
    equivalent : (n : ℕ) → G ≤ place → a ≡ plain_answer Equivalent n → Verdict a

  -- what comes of a call that is answered r, of whose budget n is accepted
  pub record Stepped (S n : ℕ) (r : Continued) : Type 0 where
    pub next : At (S + n) r.session
    pub run : r.answer.run + min S D ≡ min (S + n) D
    pub silent : S + n < D → ¬ IsVerdict r.answer
    pub verdict : S < D → D ≤ S + n → Verdict r.answer
    pub closed : D ≤ S → IsRefused r.answer × (¬ IsVerdict r.answer)

  place-first : place ≡ first (outputs_differ f₁ f₂) 0 G
  unfolding first_place first_difference outputs_differ grid_size
  place-first = refl

  pub place-most : place ≤ G
  place-most = omega (arith, place-first, first-most (outputs_differ f₁ f₂) 0 G)

  none_before : (i : ℕ) → i < place → outputs_differ f₁ f₂ i ≡ false
  none_before i l = first-before (outputs_differ f₁ f₂) 0 G i (omega arith) (omega (arith, place-first))

  place-differs : place < G → outputs_differ f₁ f₂ place ≡ true
  place-differs l = rw place-first (first_found (outputs_differ f₁ f₂) 0 G (omega (arith, place-first)))

  -- the stop, where some place differs and where none does
  pub stop-differs : place < G → D ≡ place + 1
  unfolding stop
  stop-differs l = rw (lt-ltb place G l)

  stop_agrees : G ≤ place → D ≡ G
  unfolding stop
  stop_agrees l = rw (le-ltb place G l)

  pub stop-range : (D ≤ G) × (1 ≤ G → 1 ≤ D)
  stop-range =
      elim (dec_lt place G)
      [ yes l ↦ let d = stop-differs l in omega arith | no g ↦ let d = stop_agrees (omega arith) in omega arith ]

  module _ (S : ℕ) (σ : Session) (at : At S σ) where
    -- a refused call, whatever its files
    refused-call : (c : Call) → IsRefused (answer_to σ c).answer → Stepped S (accepted_budget σ c) (answer_to σ c)
    unfolding accepted_budget refused_answer
    refused-call c r =
        let e = sym (answer-refusal σ c) ∙ r in
        let silent = no_verdict (refused_answer (refusal σ c)) (inl refl) in
        rw (r, kept σ c e)
        (record {
          next = rw add-zero at;
          run = omega arith;
          silent = λ _. silent;
          verdict = λ l h. absurd (omega arith);
          closed = λ _. (e, silent);
        })

    -- an accepted call runs from place S on
    here : S < D → σ.position ≡ S
    here l = omega (arith, at.position)

    closed-mark : D ≤ S → is_closed σ.mark ≡ true
    unfolding is_closed
    closed-mark l =
        elim (dec_lt place G)
        [ yes p ↦ rw (at.mark, mark-differ S l p) | no g ↦ rw (at.mark, mark-equal S l (omega arith)) ]

    module _ (pair : is_refusal (pair_refusal f₁ f₂) ≡ false) (c : Call) where
      abbrev B : ℕ
      B = c.budget

      abbrev len : ℕ
      len = c.scratch

      accepted-call : 0 < B → larger_count f₁ f₂ ≤ len → S < D → continue_refusal f₁ f₂ σ B len ≡ accepted
      unfolding continue_refusal state_refusal misplaced is_closed
      accepted-call b n l =
          let inside : σ.position < G = omega (arith, at.position, stop-range.0) in
          rw (
            ne_eqb B 0 (omega arith),
            pair,
            le-ltb len (larger_count f₁ f₂) n,
            at.sizes,
            same_refl,
            at.mark,
            mark_open S l,
            lt-ltb σ.position G inside,
          )

      closed-call : 0 < B → larger_count f₁ f₂ ≤ len → D ≤ S → is_refusal (continue_refusal f₁ f₂ σ B len) ≡ true
      unfolding continue_refusal state_refusal
      closed-call b n l =
          rw (ne_eqb B 0 (omega arith), pair, le-ltb len (larger_count f₁ f₂) n, at.sizes, same_refl, closed-mark l)
          (⊎_elim
          (λ (e : misplaced G σ.position σ.mark ≡ true). rw e)
          (λ (e : misplaced G σ.position σ.mark ≡ false). rw e)
          (true_or_false (misplaced G σ.position σ.mark)))

      empty-call : B ≡ 0 → is_refusal (continue_refusal f₁ f₂ σ B len) ≡ true
      unfolding continue_refusal state_refusal
      empty-call b = rw (eq-eqb B 0 b)

      short-call : 0 < B → len < larger_count f₁ f₂ → is_refusal (continue_refusal f₁ f₂ σ B len) ≡ true
      unfolding continue_refusal state_refusal
      short-call b l = rw (ne_eqb B 0 (omega arith), pair, lt-ltb len (larger_count f₁ f₂) l)

      -- what refuses a call
      abbrev Bar : Type 0
      Bar = (c.budget ≡ 0) ⊎ ((c.scratch < larger_count f₁ f₂) ⊎ (D ≤ S))

      barred-or-free : Bar ⊎ ((0 < B) × (larger_count f₁ f₂ ≤ len) × (S < D))
      barred-or-free =
          elim (dec_lt 0 B) [
            | yes b ↦ elim (dec_lt len (larger_count f₁ f₂)) [
              | yes l ↦ inl (inr (inl l))
              | no n ↦ elim (dec_lt S D) [ yes u ↦ inr (b, omega arith, u) | no v ↦ inl (inr (inr (omega arith))) ]
            ]
            | no e ↦ inl (inl (omega arith))
          ]

      barred : Bar → is_refusal (continue_refusal f₁ f₂ σ B len) ≡ true
      barred (inl b) = empty-call b
      barred (inr (inl l)) = elim (dec_lt 0 B) [ yes b ↦ short-call b l | no e ↦ empty-call (omega arith) ]
      barred (inr (inr l)) =
          elim (dec_lt 0 B) [
            | yes b ↦ elim (dec_lt len (larger_count f₁ f₂)) [ yes k ↦ short-call b k | no n ↦ closed-call b (omega arith) l ]
            | no e ↦ empty-call (omega arith)
          ]

      refused_exactly : (is_refusal (continue_refusal f₁ f₂ σ B len) ≡ true) ↔ Bar
      refused_exactly = (
        λ r.
            ⊎_elim
            (λ (b : Bar). b)
            (λ f. absurd (let e = accepted-call f.0 f.1 f.2 in let q : ◌≡◌ {A = ℕ} 0 1 = cc in omega arith))
            barred-or-free,
        barred,
      )

      accepted-progress :
          0 < B → larger_count f₁ f₂ ≤ len → S < D →
          continued f₁ f₂ σ B len ≡ progress f₁ f₂ σ B G (first (outputs_differ f₁ f₂) S (min B (G - S)))
      unfolding continued advanced
      accepted-progress b n l = rw (accepted-call b n l, here l)

      -- the first difference is among the next B
      reached : place < G → S < D → D ≤ S + B → first (outputs_differ f₁ f₂) S (min B (G - S)) ≡ place
      reached p l h =
          let d = stop-differs p in
          first_unique (outputs_differ f₁ f₂) S (min B (G - S)) place (omega arith) (omega arith) (place-differs p) (λ i _ k. none_before i k)

      -- none of the next B differs
      passed : S + B ≤ place ⊎ (G ≤ place) → first (outputs_differ f₁ f₂) S (min B (G - S)) ≡ S + min B (G - S)
      passed h =
          first_absent (outputs_differ f₁ f₂) S (min B (G - S))
          (λ i low high. none_before i (⊎_elim (λ (a : S + B ≤ place). omega arith) (λ (a : G ≤ place). omega arith) h))

      module _ (b : 0 < B) (n : larger_count f₁ f₂ ≤ len) (l : S < D) where
        differs-call :
            place < G → D ≤ S + B →
            continued f₁ f₂ σ B len ≡
            record {
              session = record { sizes = σ.sizes; position = place + 1; mark = Differ };
              answer = differs_answer f₁ f₂ (grid_vector (sizes_of f₁) place) (place + 1 - S);
            }
        unfolding progress
        differs-call p h =
            let d = stop-differs p in
            accepted-progress b n l ∙ rw (reached p l h, here l, lt-ltb place (S + min B (G - S)) (omega arith))

        equivalent-call :
            G ≤ place → D ≤ S + B →
            continued f₁ f₂ σ B len ≡
            record {
              session = record { sizes = σ.sizes; position = G; mark = Equal };
              answer = plain_answer Equivalent (G - S);
            }
        unfolding progress
        equivalent-call p h =
            let d = stop_agrees p in
            accepted-progress b n l
            ∙ rw (passed (inr p), here l, le-ltb (S + min B (G - S)) _ (le_refl _), le-leb G (S + B) (omega arith))

        -- nothing differs below the stop
        still : S + B < D → (S + B ≤ place) ⊎ (G ≤ place)
        still h =
            elim (dec_lt place G) [ yes p ↦ inl (omega (arith, stop-differs p)) | no g ↦ inr (omega arith) ]

        spent-call :
            S + B < D →
            continued f₁ f₂ σ B len ≡
            record {
              session = record { sizes = σ.sizes; position = S + B; mark = Open };
              answer = plain_answer Spent B;
            }
        unfolding progress
        spent-call h =
            let d = stop-range.0 in
            accepted-progress b n l
            ∙ rw (passed (still h), here l, le-ltb (S + min B (G - S)) _ (le_refl _), lt-leb G (S + B) (omega arith))

        differs-step : place < G → D ≤ S + B → Stepped S B (continued f₁ f₂ σ B len)
        unfolding differs_answer
        differs-step p h =
            let d = stop-differs p in
            rw (differs-call p h)
            (record {
              next = record { sizes = at.sizes; position = omega arith; mark = sym (mark-differ (S + B) h p) };
              run = omega arith;
              silent = λ k. absurd (omega arith);
              verdict = λ _ _. differs (place + 1 - S) p refl;
              closed = λ k. absurd (omega arith);
            })

        equivalent-step : G ≤ place → D ≤ S + B → Stepped S B (continued f₁ f₂ σ B len)
        unfolding plain_answer
        equivalent-step p h =
            let d = stop_agrees p in
            rw (equivalent-call p h)
            (record {
              next = record { sizes = at.sizes; position = omega arith; mark = sym (mark-equal (S + B) h p) };
              run = omega arith;
              silent = λ k. absurd (omega arith);
              verdict = λ _ _. equivalent (G - S) p refl;
              closed = λ k. absurd (omega arith);
            })

        spent-step : S + B < D → Stepped S B (continued f₁ f₂ σ B len)
        unfolding plain_answer
        spent-step h =
            rw (spent-call h)
            (record {
              next = record { sizes = at.sizes; position = omega arith; mark = sym (mark_open (S + B) h) };
              run = omega arith;
              silent = λ _. no_verdict (plain_answer Spent B) (inr refl);
              verdict = λ _ k. absurd (omega arith);
              closed = λ k. absurd (omega arith);
            })

        accepted-step : Stepped S B (continued f₁ f₂ σ B len)
        accepted-step =
            elim (dec_lt (S + B) D) [
              | yes h ↦ spent-step h
              | no k ↦ elim (dec_lt place G) [ yes p ↦ differs-step p (omega arith) | no g ↦ equivalent-step (omega arith) (omega arith) ]
            ]

      own-answer : OwnFiles f₁ f₂ c → answer_to σ c ≡ continued f₁ f₂ σ B len
      unfolding answer_to
      own-answer own = rw (own.first, own.second)

      own-refusal : OwnFiles f₁ f₂ c → is_refusal (answer_to σ c).answer.refusal ≡ is_refusal (continue_refusal f₁ f₂ σ B len)
      own-refusal own = answer-refusal σ c ∙ rw (own.first, own.second)

      pub own-refused : OwnFiles f₁ f₂ c → IsRefused (answer_to σ c).answer ↔ Bar
      own-refused own = rw (own-refusal own) refused_exactly

      own-call : OwnFiles f₁ f₂ c → Stepped S (accepted_budget σ c) (answer_to σ c)
      unfolding accepted_budget
      own-call own =
          ⊎_elim
          (λ bar. refused-call c ((own-refused own).1 bar))
          (λ f.
          rw (own-refusal own, accepted-call f.0 f.1 f.2, own-answer own) (accepted-step f.0 f.1 f.2))
          barred-or-free

      -- a call of a list that demand 3 is about
      pub call_step : OwnFiles f₁ f₂ c ⊎ IsRefused (answer_to σ c).answer → Stepped S (accepted_budget σ c) (answer_to σ c)
      call_step = ⊎_elim own-call (refused-call c)
