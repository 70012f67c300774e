-- `session_words::put_session` meets its contract: the words of the sizes, and the two after them.
-- Assumes nothing.
use mathlib.Core.List.{List, [], ◌∷◌, ◌++◌}
use mathlib.Core.Path.{◌≡◌, ◌∙◌, ap}
use Prim.Native.Nat.{ℕ}
use native.Mathlib.Omega.{arith}
use borrow.Author.Rules.{rules}
use lib.ListN.{length, drop, set, length-drop}
use lib.Seq.{take_all}
use Rattle.layouts.specs.Lengths.{sizes_length, at_position, at_mark, session_length}
use Rattle.layouts.specs.SessionWords.{mark_word, session_words}
use Rattle.layouts.specs.SizeWords.{size_words}
use Rattle.layouts.specs.Statement.{WholeWidths}
use Rattle.layouts.proofs.Entries.{two-written}
use Rattle.sessions.specs.declared.Session.{Session}
use Rattle.slices.specs.Slices.{overwritten}
use Rattle.session_words.proofs.put_session.Goals.{Start}
use Rattle.session_words.proofs.put_session.Goals as goal

written :
    (σ : Session) (entry out : List ℕ) (k : ℕ) → WholeWidths σ.sizes → length entry ≡ session_length →
    out ≡ overwritten sizes_length (size_words σ.sizes) entry → k ≡ mark_word σ.mark →
    set (set out at_position σ.position) at_mark k ≡ session_words σ
unfolding session_words size_words
written σ entry out k e l p q =
    let words = size_words σ.sizes in
    ap (λ o. set (set o at_position σ.position) at_mark k) (p ∙ ap (λ w. w ++ drop sizes_length entry) (take_all sizes_length words (omega arith)))
    ∙ two-written sizes_length words (drop sizes_length entry) σ.position k (omega arith) (simp length-drop (omega arith))
    ∙ ap (λ j. words ++ (σ.position ∷ j ∷ [])) q

widths : (c : Start) → WholeWidths c.args.session.sizes
widths c = search rules

pub returns : goal.returns
returns c = written c.args.session c.args.out.now _ _ (widths (goal.at.returns c).Start) c.requires c.put_sizes.ensures c.mark_word.ensures
