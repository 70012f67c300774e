-- Demand 3, by induction over the list of calls. What is shown of the calls that are left, from any session that accepted budgets of S in
-- all have led to, adds S to the budgets to come: each call leads on to the session of S and its accepted budget, and the one that takes
-- this sum to the stop gives the verdict. The whole list starts at S = 0, below the stop. Assumes nothing.
use mathlib.Core.Path.{◌≡◌, refl, sym, ◌∙◌, ap, subst}
use mathlib.Core.Bool.{false}
use mathlib.Core.Logic.{◌⊎◌}
use mathlib.Core.List.{List, [], ◌∷◌, ◌++◌}
use Prim.Native.Nat.{ℕ, ◌+◌, ◌<◌, ◌≤◌, min}
use native.Mathlib.Nat.{add-zero, zero-add, add_assoc}
use native.Mathlib.Decide.{dec_lt}
use native.Mathlib.Omega.{arith}
use Rattle.sizes.specs.Sizes.{is_refusal}
use Rattle.sessions.specs.Calls.{Call, answer_to, session_after, answers, IsRefused, IsVerdict, accepted_budget, budgets, vectors_run, Each}
use Rattle.sessions.specs.Demand3.{OwnFiles, Allowed, stop, Settled, Finished, start, Whole, Demand3}
use Rattle.sessions.specs.Session.{pair_refusal, opened}
use Rattle.sessions.specs.declared.Answer.{Answer}
use Rattle.sessions.specs.declared.Session.{Session}
use Rattle.sessions.proofs.Pair.{pair-accepted}
use Rattle.sessions.proofs.Step.{mark_open, At, Stepped, own-refused, call_step}
use Rattle.sessions.proofs.Verdict.{stopped, given, marked, settled}

-- the calls cs, from the session σ that accepted budgets of S in all have led to
record Onward (f₁ f₂ : List ℕ) (S : ℕ) (σ : Session) (cs : List Call) : Type 0 where
  run : vectors_run (answers σ cs) + min S (stop f₁ f₂) ≡ min (S + budgets σ cs) (stop f₁ f₂)
  at : At f₁ f₂ (S + budgets σ cs) (session_after σ cs)
  silent : S + budgets σ cs < stop f₁ f₂ → Each (λ a. ¬ IsVerdict a) (answers σ cs)
  finished : S < stop f₁ f₂ → stop f₁ f₂ ≤ S + budgets σ cs → Finished f₁ f₂ σ cs
  closed : stop f₁ f₂ ≤ S → Each (λ a. IsRefused a × (¬ IsVerdict a)) (answers σ cs)

-- the calls before one of an allowed list are allowed
allowed_before : (f₁ f₂ : List ℕ) (σ : Session) (before rest : List Call) → Allowed f₁ f₂ σ (before ++ rest) → Allowed f₁ f₂ σ before
allowed_before f₁ f₂ σ [] rest allowed = tt
allowed_before f₁ f₂ σ (c ∷ before) rest allowed = (allowed.0, allowed_before f₁ f₂ (answer_to σ c).session before rest allowed.1)

-- and so is the call itself
allowed_at :
    (f₁ f₂ : List ℕ) (σ : Session) (before : List Call) (c : Call) (after : List Call) → Allowed f₁ f₂ σ (before ++ c ∷ after) →
    OwnFiles f₁ f₂ c ⊎ IsRefused (answer_to (session_after σ before) c).answer
unfolding session_after
allowed_at f₁ f₂ σ [] c after allowed = allowed.0
allowed_at f₁ f₂ σ (b ∷ before) c after allowed = allowed_at f₁ f₂ (answer_to σ b).session before c after allowed.1

-- what holds of each answer holds of the one to a call of the list
each_at :
    (P : Answer → Type 0) (σ : Session) (before : List Call) (c : Call) (after : List Call) → Each P (answers σ (before ++ c ∷ after)) →
    P (answer_to (session_after σ before) c).answer
unfolding session_after answers
each_at P σ [] c after all = all.0
each_at P σ (b ∷ before) c after all = each_at P (answer_to σ b).session before c after all.1

module _ (f₁ f₂ : List ℕ) (pair : is_refusal (pair_refusal f₁ f₂) ≡ false) where
  abbrev D : ℕ
  D = stop f₁ f₂

  module _ (S : ℕ) (σ : Session) (c : Call) (cs : List Call) where
    abbrev n : ℕ
    n = accepted_budget σ c

    abbrev z' : Session
    z' = (answer_to σ c).session

    module _ (call : Stepped f₁ f₂ S n (answer_to σ c)) (rest : Onward f₁ f₂ (S + n) z' cs) where
      -- the call c gives the verdict
      finished-here : S < D → D ≤ S + n → Finished f₁ f₂ σ (c ∷ cs)
      unfolding session_after answers
      finished-here l h =
          let v = call.verdict l h in
          record {
            before = [];
            call = c;
            after = cs;
            split = refl;
            none_before = tt;
            verdict = given f₁ f₂ _ v;
            settled = settled f₁ f₂ pair _ v;
            refused-after = rest.closed h;
            marked = rw rest.at.mark (marked f₁ f₂ _ v _ (omega arith));
          }

      -- a later one does
      finished-later : S + n < D → Finished f₁ f₂ z' cs → Finished f₁ f₂ σ (c ∷ cs)
      unfolding session_after answers
      finished-later l f =
          record {
            before = c ∷ f.before;
            call = f.call;
            after = f.after;
            split = ap (λ (l : List Call). c ∷ l) f.split;
            none_before = (call.silent l, f.none_before);
            verdict = f.verdict;
            settled = f.settled;
            refused-after = f.refused-after;
            marked = f.marked;
          }

      onward-call : Onward f₁ f₂ S σ (c ∷ cs)
      unfolding session_after answers budgets vectors_run
      onward-call =
          record {
            run = omega (arith, call.run, rest.run);
            at = rw (← add_assoc S n (budgets z' cs)) rest.at;
            silent = λ l. (call.silent (omega arith), rest.silent (omega arith));
            finished = λ l h.
                elim (dec_lt (S + n) D) [
                  | yes u ↦ finished-later u (rest.finished u (omega arith))
                  | no v ↦ finished-here l (omega arith)
                ];
            closed = λ h. (call.closed h, rest.closed (omega arith));
          }

  onward-empty : (S : ℕ) (σ : Session) → At f₁ f₂ S σ → Onward f₁ f₂ S σ []
  unfolding session_after answers budgets vectors_run
  onward-empty S σ at =
      record {
        run = omega arith;
        at = rw add-zero at;
        silent = λ _. tt;
        finished = λ l h. absurd (omega arith);
        closed = λ _. tt;
      }

  onward : (S : ℕ) (σ : Session) → At f₁ f₂ S σ → (cs : List Call) → Allowed f₁ f₂ σ cs → Onward f₁ f₂ S σ cs
  onward S σ at [] allowed = onward-empty S σ at
  onward S σ at (c ∷ cs) allowed =
      let call = call_step f₁ f₂ S σ at pair c allowed.0 in
      onward-call S σ c cs call (onward (S + accepted_budget σ c) (answer_to σ c).session call.next cs allowed.1)

  stop-least : 0 < D
  stop-least = (stopped f₁ f₂ pair).low

  at-start : At f₁ f₂ 0 (start f₁ f₂)
  unfolding opened
  at-start = rw pair (record { sizes = refl; position = omega arith; mark = sym (mark_open f₁ f₂ 0 stop-least) })

  whole : (cs : List Call) → Allowed f₁ f₂ (start f₁ f₂) cs → Whole f₁ f₂ cs
  whole cs allowed =
      let all = onward 0 (start f₁ f₂) at-start cs allowed in
      let at = rw zero-add at all.at in
      record {
        stopped = stopped f₁ f₂ pair;
        refused = λ before c after split own.
            let earlier = allowed_before f₁ f₂ (start f₁ f₂) before (c ∷ after) (subst (Allowed f₁ f₂ (start f₁ f₂)) split allowed) in
            let here = onward 0 (start f₁ f₂) at-start before earlier in
            own-refused f₁ f₂ (budgets (start f₁ f₂) before) (session_after (start f₁ f₂) before) (rw zero-add at here.at) pair c own;
        run = omega (arith, all.run);
        position = at.position;
        unfinished = λ l. (at.mark ∙ mark_open f₁ f₂ _ l, all.silent (omega arith));
        finished = λ h. all.finished stop-least (omega arith);
      }

  -- a call of the list that gives a verdict: the verdict is right, and the list has run to the stop
  module _ (cs : List Call) (allowed : Allowed f₁ f₂ (start f₁ f₂) cs) (before : List Call) (c : Call) (after : List Call)
      (split : cs ≡ before ++ c ∷ after) where
    abbrev answer : Answer
    answer = (answer_to (session_after (start f₁ f₂) before) c).answer

    allowed_here : Allowed f₁ f₂ (start f₁ f₂) (before ++ c ∷ after)
    allowed_here = subst (Allowed f₁ f₂ (start f₁ f₂)) split allowed

    at_before : At f₁ f₂ (budgets (start f₁ f₂) before) (session_after (start f₁ f₂) before)
    at_before = rw zero-add at (onward 0 (start f₁ f₂) at-start before (allowed_before f₁ f₂ (start f₁ f₂) before (c ∷ after) allowed_here)).at

    here :
        Stepped f₁ f₂ (budgets (start f₁ f₂) before)
        (accepted_budget (session_after (start f₁ f₂) before) c)
        (answer_to (session_after (start f₁ f₂) before) c)
    here = call_step f₁ f₂ _ _ at_before pair c (allowed_at f₁ f₂ (start f₁ f₂) before c after allowed_here)

    verdict-settled : IsVerdict answer → Settled f₁ f₂ answer
    verdict-settled v =
        let S = budgets (start f₁ f₂) before in
        let n = accepted_budget (session_after (start f₁ f₂) before) c in
        elim (dec_lt (S + n) D) [
          | yes l ↦ absurd (here.silent l v)
          | no h ↦ elim (dec_lt S D) [
            | yes l ↦ settled f₁ f₂ pair _ (here.verdict l (omega arith))
            | no k ↦ absurd ((here.closed (omega arith)).1 v)
          ]
        ]

    verdict-run : IsVerdict answer → vectors_run (answers (start f₁ f₂) cs) ≡ D
    verdict-run v =
        let all = whole cs allowed in
        elim (dec_lt (budgets (start f₁ f₂) cs) D) [
          | yes l ↦
              let none = subst (λ (l : List Call). Each (λ a. ¬ IsVerdict a) (answers (start f₁ f₂) l)) split (all.unfinished l).1 in
              absurd (each_at (λ a. ¬ IsVerdict a) (start f₁ f₂) before c after none v)
          | no h ↦ omega (arith, all.run)
        ]

pub at-verdict :
    (f₁ f₂ : List ℕ) → (opened f₁ f₂).refusal.number ≡ 0 → (cs : List Call) → Allowed f₁ f₂ (start f₁ f₂) cs →
    (before : List Call) (c : Call) (after : List Call) → cs ≡ before ++ c ∷ after →
    let a = (answer_to (session_after (start f₁ f₂) before) c).answer in
    IsVerdict a →
    Settled f₁ f₂ a × (vectors_run (answers (start f₁ f₂) cs) ≡ stop f₁ f₂)
at-verdict f₁ f₂ e cs allowed before c after split v =
    let pair = pair-accepted f₁ f₂ e in
    (verdict-settled f₁ f₂ pair cs allowed before c after split v, verdict-run f₁ f₂ pair cs allowed before c after split v)

pub demand3 : Demand3
demand3 f₁ f₂ e = whole f₁ f₂ (pair-accepted f₁ f₂ e)
