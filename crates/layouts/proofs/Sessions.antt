-- Sessions as words: the sizes are the first words, and the two after them are the position and the mark, whose word is one of three.
-- Assumes nothing.
use mathlib.Core.Bool.{true, false}
use mathlib.Core.List.{List, [], ◌∷◌, ◌++◌}
use mathlib.Core.Logic.{⊎_elim}
use mathlib.Core.Path.{◌≡◌, refl, ◌∙◌, ap}
use Prim.Native.Nat.{ℕ, zero, suc, ◌+◌, ◌≤◌, ◌<◌}
use native.Mathlib.Decide.{dec_lt}
use native.Mathlib.Omega.{arith}
use lib.ListN.{length, get_or, take, length-append, length-replicate, get_or-replicate, get_or-append}
use Rattle.formats.proofs.Bytes.{format_most}
use Rattle.file.specs.Accepted.{Accepted}
use Rattle.fields.specs.File.{sizes_of}
use Rattle.fields.proofs.Heads.{length-widths}
use Rattle.ranges.proofs.Search.{true_or_false}
use Rattle.sessions.specs.Session.{pair_refusal, no_session, opened, continue_refusal, progress, advanced, continued}
use Rattle.sessions.specs.declared.Mark.{Mark}
use Rattle.sessions.specs.declared.Mark.TheVariants.{Open, Equal, Differ}
use Rattle.sessions.specs.declared.Continued.{Continued}
use Rattle.sessions.specs.declared.Session.{Session}
use Rattle.sessions.proofs.Cases.{progress-each}
use Rattle.sessions.proofs.Pair.{comparable}
use Rattle.sizes.specs.Sizes.{max_inputs, is_refusal}
use Rattle.layouts.specs.Lengths.{word_at, sizes_length, at_position, at_mark, session_length}
use Rattle.layouts.specs.SessionWords.{mark_word, mark_from, session_words, session_from}
use Rattle.layouts.specs.SizeWords.{size_words, sizes_from, ByteSizes}
use Rattle.layouts.specs.Statement.{ByteSession, SessionsAsWords}
use Rattle.layouts.proofs.Entries.{two-last, front, next, last}
use Rattle.layouts.proofs.Sizes.{given-bytes, size-words-most}
use Rattle.layouts.proofs.Told.{SessionTold, session-told, session-fits}

-- a mark's word gives the mark, and is at most 2; a word of 0 to 2 is that of the mark it gives
mark-decoded : (k : Mark) → mark_from (mark_word k) ≡ k
unfolding mark_word mark_from
mark-decoded Open = refl
mark-decoded Equal = refl
mark-decoded Differ = refl

mark-most : (k : Mark) → mark_word k ≤ 2
unfolding mark_word
mark-most Open = omega arith
mark-most Equal = omega arith
mark-most Differ = omega arith

mark-restored : (k : ℕ) → k ≤ 2 → mark_word (mark_from k) ≡ k
unfolding mark_word mark_from
mark-restored zero l = refl
mark-restored (suc zero) l = refl
mark-restored (suc (suc zero)) l = refl
mark-restored (suc (suc (suc k))) l = absurd (omega arith)

split : (w : List ℕ) → SessionTold w → session_words (session_from w) ≡ w
unfolding session_words session_from size_words sizes_from
split [] t = absurd (omega (arith, t.long))
split (m ∷ []) t = absurd (omega (arith, t.long))
split (m ∷ d ∷ l) t =
    ap (λ k. m ∷ d ∷ (take max_inputs l ++ (get_or l max_inputs 0 ∷ k ∷ []))) (mark-restored (get_or l (max_inputs + 1) 0) t.mark)
    ∙ ap (λ k. m ∷ d ∷ k) (two-last max_inputs l (omega (arith, t.long)))

module _ (σ : Session) (b : ByteSizes σ.sizes) where
  abbrev tail : List ℕ
  tail = σ.position ∷ mark_word σ.mark ∷ []

  length-sizes : length (size_words σ.sizes) ≡ sizes_length
  unfolding size_words
  length-sizes = let c = b.count in omega arith

  pub position-next : word_at (session_words σ) at_position ≡ σ.position
  unfolding session_words
  position-next = next sizes_length (size_words σ.sizes) σ.position (mark_word σ.mark) length-sizes

  pub mark-last : word_at (session_words σ) at_mark ≡ mark_word σ.mark
  unfolding session_words
  mark-last = last sizes_length (size_words σ.sizes) σ.position (mark_word σ.mark) length-sizes

  session-size-most : (i : ℕ) → i < sizes_length → word_at (session_words σ) i < 256
  unfolding session_words
  session-size-most i l =
      rw (get_or-append (size_words σ.sizes) tail 0 i (omega (arith, length-sizes))) (size-words-most σ.sizes b i l)

  length-session : length (session_words σ) ≡ session_length
  unfolding session_words
  length-session = rw (length-append, length-sizes)

  fit : SessionTold (session_words σ)
  fit =
      record {
        long = length-session;
        bytes = record { long = omega (arith, length-session); small = session-size-most };
        mark = omega (arith, mark-last, mark-most σ.mark);
      }

  again : session_from (session_words σ) ≡ σ
  unfolding session_words session_from size_words sizes_from
  again =
      let n = σ.sizes.widths in
      let p = σ.position in
      let k = mark_word σ.mark in
      λ i.
      record {
        sizes = record { m = σ.sizes.m; d = σ.sizes.d; widths = front max_inputs n p k b.count i };
        position = next max_inputs n p k b.count i;
        mark = (ap mark_from (last max_inputs n p k b.count) ∙ mark-decoded σ.mark) i;
      }

-- the sizes of an accepted file fit bytes
pub file-bytes : (s : List ℕ) → Accepted s → ByteSizes (sizes_of s)
file-bytes s a =
    record {
      output = omega (arith, a.output_high);
      inputs = omega (arith, a.inputs_high);
      count = length-widths s;
      width = λ i l.
          elim (dec_lt i (sizes_of s).d) [
            | yes u ↦ omega (arith, a.width_high i u, format_most (get_or (sizes_of s).widths i 0))
            | no v ↦ omega (arith, a.width_unused i (omega arith) l)
          ];
    }

zero-bytes : ByteSession no_session
unfolding no_session
zero-bytes =
    record {
      output = omega arith;
      inputs = omega arith;
      count = length-replicate {A = ℕ} max_inputs 0;
      width = λ i l. rw (get_or-replicate {A = ℕ} max_inputs i 0 0 l) (omega arith);
    }

opened-bytes : (f₁ f₂ : List ℕ) → ByteSession (opened f₁ f₂).session
unfolding opened
opened-bytes f₁ f₂ =
    ⊎_elim
    (λ (e : is_refusal (pair_refusal f₁ f₂) ≡ true). rw e zero-bytes)
    (λ (e : is_refusal (pair_refusal f₁ f₂) ≡ false). rw e (file-bytes f₁ (comparable f₁ f₂ e).sound₁))
    (true_or_false (is_refusal (pair_refusal f₁ f₂)))

-- a continue call keeps the sizes
progress-sizes : (s₁ s₂ : List ℕ) (σ : Session) (B G q : ℕ) → (progress s₁ s₂ σ B G q).session.sizes ≡ σ.sizes
progress-sizes s₁ s₂ σ B G q = progress-each (λ (c : Continued). c.session.sizes ≡ σ.sizes) s₁ s₂ σ B G q refl refl refl

continued-sizes : (f₁ f₂ : List ℕ) (σ : Session) (B len : ℕ) → (continued f₁ f₂ σ B len).session.sizes ≡ σ.sizes
unfolding continued advanced
continued-sizes f₁ f₂ σ B len =
    ⊎_elim
    (λ (e : is_refusal (continue_refusal f₁ f₂ σ B len) ≡ true). rw e)
    (λ (e : is_refusal (continue_refusal f₁ f₂ σ B len) ≡ false). rw e (progress-sizes f₁ f₂ σ B _ _))
    (true_or_false (is_refusal (continue_refusal f₁ f₂ σ B len)))

pub sessions_as_words : SessionsAsWords
unfolding session_from
sessions_as_words =
    record {
      restored = λ w e. split w (session-told w e);
      fits = λ σ b. session-fits (session_words σ) (fit σ b);
      decoded = again;
      given = λ w e. given-bytes w (session-told w e).bytes;
      opened = opened-bytes;
      continued = λ f₁ f₂ σ B len b. rw (continued-sizes f₁ f₂ σ B len) b;
    }
