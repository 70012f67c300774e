-- `grid_calls::bound_call` meets its contract: the words of the figures of m, the quotients one by one. Assumes nothing.
use mathlib.Core.Path.{◌≡◌, refl, sym, ◌∙◌, ap}
use mathlib.Core.List.{List, ◌∷◌}
use Prim.Native.Nat.{ℕ}
use native.Mathlib.Omega.{arith}
use lib.ListN.{length}
use lib.Seq.{take_all}
use borrow.Author.Rules.{rules}
use borrow.Author.Tests.{eq-eqb}
use Rattle.figures.proofs.Exactly.{told-ok, told-err}
use Rattle.layouts.proofs.Written.{all-written}
use Rattle.lists.proofs.Lists.{entries, entries_stretch}
use Rattle.grid_calls.specs.GridCalls.{bound_length, figure_words, bound_words}
use Rattle.grid_calls.proofs.bound_call.Goals as goal

-- six quotients are their entries
six : (q : List ℕ) → length q ≡ 6 → entries 6 q 0 ≡ q
six q e = entries_stretch 6 q 0 (omega arith) ∙ take_all 6 q (omega arith)

pub returns-in-Ok : goal.returns-in-Ok
unfolding bound_words
returns-in-Ok c =
    let long = c.if-out-ne-BOUND_LENGTH.false in
    let e = eq-eqb _ bound_length long in
    let f = c.in-Ok.f in
    record {
      result = rw e;
      out =
          rw e
          (c.copy_front.ensures
          ∙ all-written bound_length _ c.args.out.now refl long
          ∙ ap (λ q. 0 ∷ 0 ∷ 0 ∷ f.bound ∷ q) (six f.quotients (search rules))
          ∙ sym (ap figure_words (told-ok _ _ (sym c.in-Ok.is ∙ c.figures_of.ensures))));
    }

pub returns-in-Err : goal.returns-in-Err
unfolding bound_words
returns-in-Err c =
    let long = c.if-out-ne-BOUND_LENGTH.false in
    let e = eq-eqb _ bound_length long in
    record {
      result = rw e;
      out =
          rw e
          (c.copy_front-in-Err.ensures
          ∙ all-written bound_length _ c.args.out.now refl long
          ∙ sym (ap figure_words (told-err _ _ (sym c.in-Err.is ∙ c.figures_of.ensures))));
    }
