-- Demand 3 for a caller in C: the library's demand 3 of the list of calls that the chain makes, read off the words. The words of a session
-- and of an answer give back the session and the answer. Assumes nothing.
use mathlib.Core.Bool.{true}
use mathlib.Core.List.{List, ◌∷◌, ◌++◌, map}
use mathlib.Core.Logic.{◌⊎◌, inl, inr, ⊎_elim, ◌↔◌}
use mathlib.Core.Path.{◌≡◌, refl, sym, ◌∙◌, ap, subst}
use Prim.Native.Nat.{ℕ, ◌+◌, ◌-◌, ◌<◌, ◌≤◌}
use native.Mathlib.Omega.{arith}
use borrow.Author.Tests.{eq-eqb}
use lib.ListN.{length, get_or, take, drop, length-map, get_or-eq_default}
use lib.Seq.{take-take, take_at, get_or-take, get_or-drop}
use Rattle.engine.specs.Engine.{larger_count}
use Rattle.file.specs.Accepted.{Accepted}
use Rattle.fields.specs.File.{sizes_of}
use Rattle.evaluate.specs.Evaluate.{vector_of}
use Rattle.grid.proofs.Grids.{length-axes}
use Rattle.input_words.proofs.InputWords.{values-front}
use Rattle.layouts.specs.AnswerWords.{kind_word, answer_from}
use Rattle.layouts.specs.Lengths.{word_at, at_number, at_position, at_mark, at_vector, at_output₁, at_output₂}
use Rattle.layouts.specs.SessionWords.{mark_word, session_words}
use Rattle.layouts.specs.Statement.{ByteSession}
use Rattle.layouts.proofs.Answers.{answers_as_words}
use Rattle.fields.proofs.Heads.{length-widths}
use Rattle.layouts.proofs.Sessions.{sessions_as_words, position-next, mark-last}
use Rattle.session_calls.specs.SessionCalls.{open_fits, OpenCall}
use Rattle.sessions.specs.Calls.{Call, answer_to, session_after, IsRefused as RefusedAnswer, IsVerdict}
use Rattle.sessions.specs.Demand3.{stop, stop_vector, ShowsFirst, Settled, MarkOf, start, Whole}
use Rattle.sessions.specs.Session.{pair_refusal, opened}
use Rattle.sessions.specs.declared.Answer.{Answer}
use Rattle.sessions.specs.declared.Kind.{Kind}
use Rattle.sessions.specs.declared.Kind.TheVariants.{Refused, Spent, Equivalent, Differs}
use Rattle.sessions.specs.declared.Mark.TheVariants.{Open, Equal, Differ}
use Rattle.sessions.specs.declared.Session.{Session}
use Rattle.sessions.proofs.Demand3.{demand3}
use Rattle.sessions.proofs.Pair.{comparable}
use Rattle.sizes.specs.Sizes.{max_inputs, formats_of}
use Rattle.sizes.specs.Padded.{padded}
use Rattle.sizes.proofs.Formats.{length_formats}
use Rattle.sizes.proofs.Padded.{padded-entry}
use Rattle.vectors.proofs.GridWords.{length-grid-vector}
use Rattle.words.specs.Words.{word}
use Rattle.callers.specs.Demand3InC.{ShowsFirstInC, SettledInC, LaterInC, FinishedInC, UnfinishedInC, WholeInC, Demand3InC}
use Rattle.callers.specs.Made.{Made, kind, left, IsRefused, GivesVerdict, OwnFiles, budgets}
use Rattle.callers.proofs.Mirror.{call, Answered, Mirror, Mirrored, mirrored, held_after, left-words, kind-told, refused-told, refused-given, budgets-told, runs-told, each-told, allowed_told, passed, found}
use Rattle.callers.proofs.Refused.{right-told, right-left}

-- the kind words of the verdicts
kind_2 : (k : Kind) → kind_word k ≡ 2 → k ≡ Equivalent
unfolding kind_word
kind_2 Refused e = absurd (omega arith)
kind_2 Spent e = absurd (omega arith)
kind_2 Equivalent e = refl
kind_2 Differs e = absurd (omega arith)

kind_3 : (k : Kind) → kind_word k ≡ 3 → k ≡ Differs
unfolding kind_word
kind_3 Refused e = absurd (omega arith)
kind_3 Spent e = absurd (omega arith)
kind_3 Equivalent e = absurd (omega arith)
kind_3 Differs e = refl

word-equivalent : kind_word Equivalent ≡ 2
unfolding kind_word
word-equivalent = refl

word-differs : kind_word Differs ≡ 3
unfolding kind_word
word-differs = refl

word_open : mark_word Open ≡ 0
unfolding mark_word
word_open = refl

word-equal : mark_word Equal ≡ 1
unfolding mark_word
word-equal = refl

word-differ : mark_word Differ ≡ 2
unfolding mark_word
word-differ = refl

-- what the words of a call that returned 1 tell of its answer
module _ {σ : Session} {c : Made} (a : Answered σ c) where
  abbrev said : Answer
  said = (answer_to σ (call c)).answer

  told_2 : kind c ≡ 2 → said.kind ≡ Equivalent
  told_2 e = kind_2 _ (sym (kind-told a) ∙ e)

  told_3 : kind c ≡ 3 → said.kind ≡ Differs
  told_3 e = kind_3 _ (sym (kind-told a) ∙ e)

  given_2 : said.kind ≡ Equivalent → kind c ≡ 2
  given_2 e = kind-told a ∙ ap kind_word e ∙ word-equivalent

  given_3 : said.kind ≡ Differs → kind c ≡ 3
  given_3 e = kind-told a ∙ ap kind_word e ∙ word-differs

  pub verdict-told : GivesVerdict c → IsVerdict said
  verdict-told v = ⊎_elim (λ e. inl (told_2 e)) (λ e. inr (told_3 e)) v.verdict

  verdict-given : IsVerdict said → GivesVerdict c
  verdict-given v =
      record { laid = a.laid; verdict = ⊎_elim (λ e. inl (given_2 e)) (λ e. inr (given_3 e)) v }

  -- the answer that the words give
  read_back : answer_from c.answer' ≡ said
  unfolding answer_to
  read_back =
      ap answer_from a.said
      ∙ answers_as_words.decoded said (answers_as_words.continued c.file₁ c.file₂ σ c.budget (length c.scratch))

  vector-told : take max_inputs (drop at_vector c.answer') ≡ said.vector
  unfolding answer_from
  vector-told = ap (λ (a : Answer). a.vector) read_back

  output₁-told : word_at c.answer' at_output₁ ≡ said.output1
  unfolding answer_from
  output₁-told = ap (λ (a : Answer). a.output1) read_back

  output₂-told : word_at c.answer' at_output₂ ≡ said.output2
  unfolding answer_from
  output₂-told = ap (λ (a : Answer). a.output2) read_back

  -- the vector x of d values, held in the vector words
  module _ (x : List ℕ) (d : ℕ) (e : length x ≡ d) (l : d ≤ max_inputs) (v : said.vector ≡ padded x) where
    first-words : take d (drop at_vector c.answer') ≡ x
    first-words =
        sym (take-take d max_inputs (drop at_vector c.answer') l) ∙ ap (take d) (vector-told ∙ v) ∙ take_at x _ d e

    other_words : (i : ℕ) → d ≤ i → i < max_inputs → word_at c.answer' (at_vector + i) ≡ 0
    other_words i low high =
        sym (get_or-drop at_vector c.answer' i 0)
        ∙ sym (get_or-take max_inputs (drop at_vector c.answer') i 0 high)
        ∙ ap (λ (l : List ℕ). get_or l i 0) (vector-told ∙ v)
        ∙ padded-entry x i
        ∙ get_or-eq_default x 0 (omega arith)

silent-told : (σ : Session) (c : Made) → Answered σ c → ¬ IsVerdict (answer_to σ (call c)).answer → ¬ GivesVerdict c
silent-told σ c a n v = n (verdict-told a v)

silent-skipped : (c : Made) → c.result ≡ 0 → ¬ GivesVerdict c
silent-skipped c e v = omega (arith, v.laid)

later-told :
    (σ : Session) (c : Made) → Answered σ c →
    RefusedAnswer (answer_to σ (call c)).answer × (¬ IsVerdict (answer_to σ (call c)).answer) → LaterInC c
later-told σ c a p = record { refused = λ _. refused-given a p.0; silent = silent-told σ c a p.1 }

later-skipped : (c : Made) → c.result ≡ 0 → LaterInC c
later-skipped c e = record { refused = λ q. absurd (omega arith); silent = silent-skipped c e }

module _ (f₁ f₂ : List ℕ) (sound : Accepted f₁) {σ : Session} {c : Made} (a : Answered σ c) where
  shown : ShowsFirst f₁ f₂ (said a) → ShowsFirstInC f₁ f₂ c
  shown s =
      let x = map word (stop_vector f₁ f₂) in
      let z = sizes_of f₁ in
      let l = length-map (stop_vector f₁ f₂) word ∙ length-grid-vector z (stop f₁ f₂ - 1) ∙ length-axes z (length-widths f₁) sound.inputs_high in
      let words = first-words a x z.d l sound.inputs_high s.vector in
      let count = length_formats z (omega (arith, length-widths f₁, sound.inputs_high)) in
      record {
        place = s.place;
        first = s.first;
        integers =
            ap (vector_of z) words ∙ sym (values-front (formats_of z) x _ (count ∙ sym l)) ∙ ap (vector_of z) (sym s.vector) ∙ s.integers;
        vector = words;
        others = other_words a x (sizes_of f₁).d l sound.inputs_high s.vector;
        output₁ = output₁-told a ∙ s.output₁;
        output₂ = output₂-told a ∙ s.output₂;
      }

  settled : Settled f₁ f₂ (said a) → SettledInC f₁ f₂ c
  settled s =
      record {
        equivalent = (λ e. s.equivalent.0 (told_2 a e), λ q. given_2 a (s.equivalent.1 q));
        differs = λ e. shown (s.differs (told_3 a e));
      }

module _ (f₁ f₂ w₀ o w o' : List ℕ) (h : OpenCall f₁ f₂ w₀ o 1 w o') (zero : word_at o' at_number ≡ 0) where
  laid : open_fits w₀ o ≡ true
  laid = right-told 1 _ h.result refl

  pub number_0 : (opened f₁ f₂).refusal.number ≡ 0
  number_0 = sym (ap (λ l. word_at l at_number) (right-left _ _ _ _ h.out laid)) ∙ zero

  pub start-words : w ≡ session_words (start f₁ f₂)
  start-words = right-left _ _ _ _ h.session laid

  start-held : ByteSession (start f₁ f₂)
  start-held = sessions_as_words.opened f₁ f₂

  sound : Accepted f₁
  unfolding opened
  sound = (comparable f₁ f₂ (rw (eq-eqb (pair_refusal f₁ f₂).number 0 number_0))).sound₁

  module _ (cs : List Made) (m : Mirrored (start f₁ f₂) cs) (whole : Whole f₁ f₂ m.calls) where
    abbrev last : Session
    last = session_after (start f₁ f₂) m.calls

    last-words : left w cs ≡ session_words last
    last-words = left-words w start-words m.mirror

    position-told : word_at (left w cs) at_position ≡ last.position
    position-told =
        ap (λ l. word_at l at_position) last-words ∙ position-next last (held_after (start f₁ f₂) start-held m.calls)

    mark-told : word_at (left w cs) at_mark ≡ mark_word last.mark
    mark-told = ap (λ l. word_at l at_mark) last-words ∙ mark-last last (held_after (start f₁ f₂) start-held m.calls)

    refused :
        (before : List Made) (c : Made) (after : List Made) → cs ≡ before ++ c ∷ after → OwnFiles f₁ f₂ c → c.result ≡ 1 →
        IsRefused c ↔ ((c.budget ≡ 0) ⊎ ((length c.scratch < larger_count f₁ f₂) ⊎ (stop f₁ f₂ ≤ budgets before)))
    refused before c after split own l =
        let p = passed before c after l (subst (λ (k : List Made). Mirror (start f₁ f₂) k m.calls) split m.mirror) in
        let q =
        whole.refused p.earlier (call c) p.later p.split (record { first = own.first; second = own.second }) in
        rw (budgets-told p.mirror) (λ r. q.0 (refused-told p.here r), λ b. refused-given p.here (q.1 b))

    unfinished : budgets cs < stop f₁ f₂ → UnfinishedInC w cs
    unfinished l =
        let u = whole.unfinished (omega (arith, budgets-told m.mirror)) in
        record {
          mark = mark-told ∙ ap mark_word u.0 ∙ word_open;
          silent = each-told _ _ silent-told silent-skipped m.mirror u.1;
        }

    finished : stop f₁ f₂ ≤ budgets cs → FinishedInC f₁ f₂ w cs
    finished l =
        let f = whole.finished (omega (arith, budgets-told m.mirror)) in
        let r = found m.mirror f.before f.call f.after f.split in
        let σ = session_after (start f₁ f₂) f.before in
        let marked = subst (λ (k : Call). MarkOf (answer_to σ k).answer last.mark) (sym r.same) f.marked in
        record {
          before = r.before;
          call = r.made;
          after = r.after;
          split = r.split;
          none_before = each-told _ _ silent-told silent-skipped r.passed-before f.none_before;
          verdict = verdict-given r.here (subst (λ (k : Call). IsVerdict (answer_to σ k).answer) (sym r.same) f.verdict);
          settled =
              settled f₁ f₂ sound r.here (subst (λ (k : Call). Settled f₁ f₂ (answer_to σ k).answer) (sym r.same) f.settled);
          refused-after = each-told _ _ later-told later-skipped r.passed-after f.refused-after;
          marked =
              record {
                equal = λ e. mark-told ∙ ap mark_word (marked.equal (told_2 r.here e)) ∙ word-equal;
                differ = λ e. mark-told ∙ ap mark_word (marked.differ (told_3 r.here e)) ∙ word-differ;
              };
        }

    all : WholeInC f₁ f₂ w cs
    all =
        let b = budgets-told m.mirror in
        record {
          stopped = whole.stopped;
          laid = m.laid;
          refused = refused;
          run = rw b (runs-told m.mirror ∙ whole.run);
          position = rw b (position-told ∙ whole.position);
          unfinished = unfinished;
          finished = finished;
        }

pub demand3_in_c : Demand3InC
demand3_in_c f₁ f₂ w₀ o w o' h zero cs chain allowed =
    let e = number_0 f₁ f₂ w₀ o w o' h zero in
    let m = mirrored (start f₁ f₂) (sessions_as_words.opened f₁ f₂) w (start-words f₁ f₂ w₀ o w o' h zero) cs chain in
    all f₁ f₂ w₀ o w o' h zero cs m (demand3 f₁ f₂ e m.calls (allowed_told f₁ f₂ m.mirror allowed))
