-- A chain of C calls beside the list of the library's calls that it makes: a call that returned 0 left the session words as they were and
-- drops out; one that returned 1 was given the words of a session, and left the words of the session and of the answer that the library's
-- call gives. So sums, and what holds of each call, are those of the library's list, and the two lists are split at the same calls.
-- Assumes nothing.
use mathlib.Core.Bool.{Bool, true, false, not, cond, ◌&&◌}
use mathlib.Core.List.{List, [], ◌∷◌, ◌++◌}
use mathlib.Core.Logic.{◌⊎◌, inl, inr, ⊎_elim}
use mathlib.Core.Path.{◌≡◌, refl, sym, ◌∙◌, ap, ap₂, subst}
use Prim.Native.Nat.{ℕ, ◌+◌}
use native.Mathlib.Nat.{zero-add}
use native.Mathlib.Omega.{arith}
use lib.Dec.{eqb}
use lib.ListN.{length}
use borrow.Author.Tests.{eq-eqb, ne_eqb, eqb-false, not-true}
use Rattle.layouts.specs.AnswerWords.{kind_word, answer_words}
use Rattle.layouts.specs.Layout.{has, returned}
use Rattle.layouts.specs.Lengths.{word_at, at_number, at_kind, at_run, answer_length}
use Rattle.layouts.specs.SessionWords.{session_words, session_fits, session_from}
use Rattle.layouts.specs.Statement.{ByteSession}
use Rattle.layouts.proofs.Sessions.{sessions_as_words}
use Rattle.ranges.proofs.Search.{true_or_false}
use Rattle.session_calls.specs.SessionCalls.{continue_fits}
use Rattle.sessions.specs.Calls.{Call, answer_to, session_after, answers, accepted_budget, budgets as accepted_budgets, vectors_run, Each as EachAnswer, IsRefused as RefusedAnswer}
use Rattle.sessions.specs.Demand3.{OwnFiles as OwnCall, Allowed as AllowedCalls}
use Rattle.sessions.specs.Session.{continued}
use Rattle.sessions.specs.declared.Answer.{Answer}
use Rattle.sessions.specs.declared.Continued.{Continued}
use Rattle.sessions.specs.declared.Session.{Session}
use Rattle.callers.specs.Made.{Made, number, kind, run, returned1, Link, Chain, left, Each, IsRefused, Allowed, budgets, runs}
use Rattle.callers.proofs.Refused.{wrong-left, right-left}

-- the library's call that a C call makes
abbrev pub call : Made → Call
call c = record { file₁ = c.file₁; file₂ = c.file₂; budget = c.budget; scratch = length c.scratch }

-- the call c, given the words of the session σ, returned 1
pub record Answered (σ : Session) (c : Made) : Type 0 where
  pub laid : c.result ≡ 1
  pub next : c.session' ≡ session_words (answer_to σ (call c)).session
  pub said : c.answer' ≡ answer_words (answer_to σ (call c)).answer

-- the call c, given the words of the session σ, returned 0
pub record Skipped (σ : Session) (c : Made) : Type 0 where
  pub wrong : c.result ≡ 0
  pub kept : c.session' ≡ session_words σ

-- a call that returned 0 counts for nothing
returned1-wrong : (c : Made) → c.result ≡ 0 → returned1 c ≡ false
returned1-wrong c e = ne_eqb c.result 1 (λ q. omega arith)

either : (b : Bool) (n : ℕ) → cond b n 0 ≡ cond (not b) 0 n
either true n = refl
either false n = refl

pub data Mirror : Session → List Made → List Call → Type 0 where
  none : {σ : Session} → Mirror σ [] []
  skipped : {σ : Session} {c : Made} {cs : List Made} {ks : List Call} → Skipped σ c → Mirror σ cs ks → Mirror σ (c ∷ cs) ks
  answered :
      {σ : Session} {c : Made} {cs : List Made} {ks : List Call} →
      Answered σ c → Mirror (answer_to σ (call c)).session cs ks → Mirror σ (c ∷ cs) (call c ∷ ks)

module _ (σ : Session) (held : ByteSession σ) (c : Made) (link : Link (session_words σ) c) where
  read_back : session_from c.session ≡ σ
  read_back = ap session_from link.given ∙ sessions_as_words.decoded σ held

  session-fits : session_fits c.session ≡ true
  session-fits = ap session_fits link.given ∙ sessions_as_words.fits σ held

  -- the layout hangs on the answer slice alone
  layout : continue_fits c.session c.answer ≡ has answer_length c.answer
  unfolding continue_fits
  layout =
      ⊎_elim
      (λ (e : has answer_length c.answer ≡ true). rw (e, session-fits))
      (λ (e : has answer_length c.answer ≡ false). rw e)
      (true_or_false (has answer_length c.answer))

  pub result-told : c.result ≡ returned (has answer_length c.answer)
  result-told = link.call.result ∙ ap returned layout

  -- what the library answers
  went : continued c.file₁ c.file₂ (session_from c.session) c.budget (length c.scratch) ≡ answer_to σ (call c)
  unfolding answer_to
  went = ap (λ y. continued c.file₁ c.file₂ y c.budget (length c.scratch)) read_back

  pub step : Answered σ c ⊎ Skipped σ c
  step =
      ⊎_elim
      (λ (e : continue_fits c.session c.answer ≡ true).
      inl
      (record {
        laid = link.call.result ∙ ap returned e;
        next = right-left _ _ _ _ link.call.session e ∙ ap (λ (k : Continued). session_words k.session) went;
        said = right-left _ _ _ _ link.call.answer e ∙ ap (λ (k : Continued). answer_words k.answer) went;
      }))
      (λ (e : continue_fits c.session c.answer ≡ false).
      inr
      (record {
        wrong = link.call.result ∙ ap returned e;
        kept = wrong-left _ _ _ _ link.call.session e ∙ link.given;
      }))
      (true_or_false (continue_fits c.session c.answer))

  held_next : ByteSession (answer_to σ (call c)).session
  unfolding answer_to
  held_next = sessions_as_words.continued c.file₁ c.file₂ σ c.budget (length c.scratch) held

-- a chain from the words of a session has its library's list, and each result hangs on the answer slice alone
pub record Mirrored (σ : Session) (cs : List Made) : Type 0 where
  pub calls : List Call
  pub mirror : Mirror σ cs calls
  pub laid : Each (λ c. c.result ≡ returned (has answer_length c.answer)) cs

pub mirrored : (σ : Session) → ByteSession σ → (w : List ℕ) → w ≡ session_words σ → (cs : List Made) → Chain w cs → Mirrored σ cs
mirrored σ held w e [] chain = record { calls = []; mirror = none; laid = tt }
mirrored σ held w e (c ∷ cs) chain =
    let link = subst (λ l. Link l c) e chain.0 in
    ⊎_elim
    (λ (a : Answered σ c).
    let rest = mirrored (answer_to σ (call c)).session (held_next σ held c link) c.session' a.next cs chain.1 in
    record { calls = call c ∷ rest.calls; mirror = answered a rest.mirror; laid = (result-told σ held c link, rest.laid) })
    (λ (s : Skipped σ c).
    let rest = mirrored σ held c.session' s.kept cs chain.1 in
    record { calls = rest.calls; mirror = skipped s rest.mirror; laid = (result-told σ held c link, rest.laid) })
    (step σ held c link)

-- the sessions of a list stay of the kind that words give back
pub held_after : (σ : Session) → ByteSession σ → (ks : List Call) → ByteSession (session_after σ ks)
unfolding session_after answer_to
held_after σ held [] = held
held_after σ held (k ∷ ks) =
    held_after (answer_to σ k).session (sessions_as_words.continued k.file₁ k.file₂ σ k.budget k.scratch held) ks

pub left-words : {σ : Session} {cs : List Made} {ks : List Call} (w : List ℕ) → w ≡ session_words σ → Mirror σ cs ks → left w cs ≡ session_words (session_after σ ks)
unfolding session_after
left-words w e none = e
left-words w e (skipped {c = c} s m) = left-words c.session' s.kept m
left-words w e (answered {c = c} a m) = left-words c.session' a.next m

-- the words of an answer, and what they tell of it
module _ {σ : Session} {c : Made} (a : Answered σ c) where
  abbrev said : Answer
  said = (answer_to σ (call c)).answer

  number-told : number c ≡ said.refusal.number
  unfolding answer_words
  number-told = ap (λ l. word_at l at_number) a.said

  run-told : run c ≡ said.run
  unfolding answer_words
  run-told = ap (λ l. word_at l at_run) a.said

  pub kind-told : kind c ≡ kind_word said.kind
  unfolding answer_words
  kind-told = ap (λ l. word_at l at_kind) a.said

  pub refused-told : IsRefused c → RefusedAnswer said
  refused-told q = rw (ne_eqb said.refusal.number 0 (λ e. q.number (number-told ∙ e)))

  pub refused-given : RefusedAnswer said → IsRefused c
  refused-given q = record { laid = a.laid; number = λ e. eqb-false _ 0 (not-true _ q) (sym number-told ∙ e) }

  budget-told : cond (returned1 c && eqb (number c) 0) c.budget 0 ≡ accepted_budget σ (call c)
  unfolding accepted_budget
  budget-told = rw (eq-eqb c.result 1 a.laid, number-told) (either (eqb said.refusal.number 0) c.budget)

  vectors-told : cond (returned1 c) (run c) 0 ≡ said.run
  vectors-told = rw (eq-eqb c.result 1 a.laid) run-told

pub budgets-told : {σ : Session} {cs : List Made} {ks : List Call} → Mirror σ cs ks → budgets cs ≡ accepted_budgets σ ks
unfolding budgets accepted_budgets
budgets-told none = refl
budgets-told (skipped {c = c} s m) = rw (returned1-wrong c s.wrong, zero-add) (budgets-told m)
budgets-told (answered a m) = ap₂ ◌+◌ (budget-told a) (budgets-told m)

pub runs-told : {σ : Session} {cs : List Made} {ks : List Call} → Mirror σ cs ks → runs cs ≡ vectors_run (answers σ ks)
unfolding runs answers vectors_run
runs-told none = refl
runs-told (skipped {c = c} s m) = rw (returned1-wrong c s.wrong, zero-add) (runs-told m)
runs-told (answered a m) = ap₂ ◌+◌ (vectors-told a) (runs-told m)

-- what holds of each answer, of each call
pub each-told :
    (P : Answer → Type 0) (Q : Made → Type 0) →
    ((σ : Session) (c : Made) → Answered σ c → P (answer_to σ (call c)).answer → Q c) →
    ((c : Made) → c.result ≡ 0 → Q c) →
    {σ : Session} {cs : List Made} {ks : List Call} → Mirror σ cs ks → EachAnswer P (answers σ ks) → Each Q cs
unfolding answers
each-told P Q here skip none p = tt
each-told P Q here skip (skipped {c = c} s m) p = (skip c s.wrong, each-told P Q here skip m p)
each-told P Q here skip (answered {σ = σ} {c = c} a m) p = (here σ c a p.0, each-told P Q here skip m p.1)

pub allowed_told :
    (f₁ f₂ : List ℕ) {σ : Session} {cs : List Made} {ks : List Call} → Mirror σ cs ks → Each (Allowed f₁ f₂) cs → AllowedCalls f₁ f₂ σ ks
allowed_told f₁ f₂ none p = tt
allowed_told f₁ f₂ (skipped s m) p = allowed_told f₁ f₂ m p.1
allowed_told f₁ f₂ (answered a m) p = (judged a p.0, allowed_told f₁ f₂ m p.1)
  where
    judged :
        {σ : Session} {c : Made} → Answered σ c → Allowed f₁ f₂ c → OwnCall f₁ f₂ (call c) ⊎ RefusedAnswer (answer_to σ (call c)).answer
    judged a (inl o) = inl (record { first = o.first; second = o.second })
    judged a (inr (inl q)) = inr (refused-told a q)
    judged a (inr (inr e)) = absurd (omega (arith, a.laid))

-- a call of the chain that returned 1, in the library's list
pub record Passed (σ : Session) (before : List Made) (c : Made) (ks : List Call) : Type 0 where
  pub earlier : List Call
  pub later : List Call
  pub split : ks ≡ earlier ++ call c ∷ later
  pub mirror : Mirror σ before earlier
  pub here : Answered (session_after σ earlier) c

pub passed :
    {σ : Session} {ks : List Call} (before : List Made) (c : Made) (after : List Made) →
    c.result ≡ 1 → Mirror σ (before ++ c ∷ after) ks → Passed σ before c ks
unfolding session_after
passed [] c after l (skipped s m) = absurd (omega (arith, s.wrong))
passed [] c after l (answered {ks = ks} a m) = record { earlier = []; later = ks; split = refl; mirror = none; here = a }
passed (b ∷ before) c after l (skipped s m) =
    let r = passed before c after l m in
    record { earlier = r.earlier; later = r.later; split = r.split; mirror = skipped s r.mirror; here = r.here }
passed {σ = σ} (b ∷ before) c after l (answered {ks = ks} a m) =
    let r = passed {σ = (answer_to σ (call b)).session} before c after l m in
    record {
      earlier = call b ∷ r.earlier;
      later = r.later;
      split = ap (λ (ks : List Call). call b ∷ ks) r.split;
      mirror = answered a r.mirror;
      here = r.here;
    }

-- a call of the library's list, in the chain
pub record Found (σ : Session) (cs : List Made) (earlier : List Call) (k : Call) (later : List Call) : Type 0 where
  pub before : List Made
  pub made : Made
  pub after : List Made
  pub split : cs ≡ before ++ made ∷ after
  pub same : call made ≡ k
  pub passed-before : Mirror σ before earlier
  pub here : Answered (session_after σ earlier) made
  pub passed-after : Mirror (answer_to (session_after σ earlier) k).session after later

pub found :
    {σ : Session} {cs : List Made} {ks : List Call} → Mirror σ cs ks →
    (earlier : List Call) (k : Call) (later : List Call) → ks ≡ earlier ++ k ∷ later → Found σ cs earlier k later
unfolding session_after
found none [] k later e = absurd (let q : ◌≡◌ {A = ℕ} 0 1 = cc in omega arith)
found none (x ∷ earlier) k later e = absurd (let q : ◌≡◌ {A = ℕ} 0 1 = cc in omega arith)
found (skipped {c = c} s m) earlier k later e =
    let r = found m earlier k later e in
    record {
      before = c ∷ r.before;
      made = r.made;
      after = r.after;
      split = ap (λ (l : List Made). c ∷ l) r.split;
      same = r.same;
      passed-before = skipped s r.passed-before;
      here = r.here;
      passed-after = r.passed-after;
    }
found (answered {σ = σ} {c = c} {cs = cs} {ks = ks} a m) [] k later e =
    let p : call c ≡ k = cc in
    let q : ks ≡ later = cc in
    subst (λ (y : Call). Found σ (c ∷ cs) [] y later) p
    (subst (λ (l : List Call). Found σ (c ∷ cs) [] (call c) l) q
    (record {
      before = [];
      made = c;
      after = cs;
      split = refl;
      same = refl;
      passed-before = none;
      here = a;
      passed-after = m;
    }))
found (answered {σ = σ} {c = c} {cs = cs} {ks = ks} a m) (x ∷ earlier) k later e =
    let p : call c ≡ x = cc in
    let q : ks ≡ earlier ++ k ∷ later = cc in
    let r = found m earlier k later q in
    subst (λ (y : Call). Found σ (c ∷ cs) (y ∷ earlier) k later) p
    (record {
      before = c ∷ r.before;
      made = r.made;
      after = r.after;
      split = ap (λ (l : List Made). c ∷ l) r.split;
      same = r.same;
      passed-before = answered a r.passed-before;
      here = r.here;
      passed-after = r.passed-after;
    })
