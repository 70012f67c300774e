-- A refusal that is written into words, and what is put into the part after it: zeros, or the axes and G. Assumes nothing.
use mathlib.Core.List.{List, [], ◌∷◌, ◌++◌, append-nil}
use mathlib.Core.Path.{◌≡◌, refl, ◌∙◌, ap}
use Prim.Native.Nat.{ℕ, ◌+◌, ◌-◌}
use native.Mathlib.Omega.{arith}
use lib.ListN.{length, take, drop, set, length-drop, drop_of_length-le}
use lib.Seq.{take_all}
use Rattle.grid.specs.declared.Grid.{Grid}
use Rattle.layouts.specs.AnswerWords.{refusal_words}
use Rattle.layouts.specs.Lengths.{refusal_length, grid_length}
use Rattle.layouts.proofs.Written.{part_whole, part_back}
use Rattle.lists.proofs.Lists.{set_front}
use Rattle.sizes.specs.Sizes.{max_inputs}
use Rattle.sizes.specs.declared.Refusal.{Refusal}
use Rattle.slices.specs.Slices.{cleared, overwritten}
use Rattle.grid_calls.specs.GridCalls.{grid_as_words, no_grid}

module _ (r : Refusal) (entry out : List ℕ) (l : length entry ≡ grid_length) (p : out ≡ overwritten refusal_length (refusal_words r) entry) where
  abbrev rest : List ℕ
  rest = drop refusal_length entry

  abbrev k : ℕ
  k = length out - refusal_length

  -- the part of the words after the refusal, written by f
  behind :
      (f : List ℕ → List ℕ) (part : List ℕ) → part ≡ f (take k (drop refusal_length out)) →
      take refusal_length out ++ (part ++ drop k (drop refusal_length out)) ≡ refusal_words r ++ f rest
  behind f part q =
      part_back refusal_length k out refl part
      ∙ ap (λ o. take refusal_length out ++ o) (q ∙ ap f (part_whole refusal_length k out refl))
      ∙ ap (λ o. take refusal_length o ++ f (drop refusal_length o)) p

  pub zeros-put :
      (part : List ℕ) → part ≡ cleared (max_inputs + 1) (take k (drop refusal_length out)) →
      take refusal_length out ++ (part ++ drop k (drop refusal_length out)) ≡ refusal_words r ++ no_grid
  zeros-put part q =
      behind (cleared (max_inputs + 1)) part q
      ∙ ap (λ o. refusal_words r ++ (no_grid ++ o)) (drop_of_length-le rest {i = max_inputs + 1} (simp length-drop (omega arith)))

  pub grid-put :
      (g : Grid) (part : List ℕ) → length g.axes ≡ max_inputs →
      part ≡ overwritten max_inputs g.axes (take k (drop refusal_length out)) →
      set (take refusal_length out ++ (part ++ drop k (drop refusal_length out))) (refusal_length + max_inputs) g.size
      ≡ refusal_words r ++ grid_as_words g
  grid-put g part e q =
      let last = drop max_inputs rest in
      ap (λ o. set o (refusal_length + max_inputs) g.size)
      (behind (overwritten max_inputs g.axes) part q
      ∙ ap (λ o. refusal_words r ++ (o ++ last)) (take_all max_inputs g.axes (omega arith)))
      ∙ ap (λ o. refusal_words r ++ o)
      (set_front g.axes last max_inputs g.size e (simp length-drop (omega arith))
      ∙ ap (λ o. (g.axes ++ (g.size ∷ [])) ++ o) (drop_of_length-le last {i = 1} (simp length-drop (omega arith)))
      ∙ append-nil (grid_as_words g))
