-- Entries after spaces: those of two lists one after the other, one entry more, and the room for it. By recursion on the list. Assumes
-- nothing.
use mathlib.Core.Path.{◌≡◌, refl, sym, ◌∙◌, ap, subst}
use mathlib.Core.List.{List, [], ◌∷◌, ◌++◌, append_assoc, append-nil}
use Prim.Native.Nat.{ℕ, suc, ◌+◌, ◌<◌}
use native.Mathlib.Numerals.{add-one}
use lib.ListN.{length, get_or, take, drop}
use lib.Seq.{take-suc, split_at}
use Rattle.text.specs.Text.{space, line, spaced_by}
use Rattle.text.specs.Writing.{RoomFor}
use Rattle.text.proofs.Over.{room-first}

module _ {A : Type 0} (f : A → List ℕ) where
  pub spaced_one : (x : A) → spaced_by f (x ∷ []) ≡ space ∷ f x
  unfolding spaced_by
  spaced_one x = append-nil (space ∷ f x)

  spaced-append : (xs ys : List A) → spaced_by f (xs ++ ys) ≡ spaced_by f xs ++ spaced_by f ys
  unfolding spaced_by
  spaced-append [] ys = refl
  spaced-append (x ∷ xs) ys = rw (spaced-append xs ys) (sym (append_assoc (space ∷ f x) (spaced_by f xs) (spaced_by f ys)))

  -- the first i entries, and one more; past the end there are copies of z
  module _ (xs : List A) (i : ℕ) (z : A) (h : i < length xs) where
    pub spaced-step : spaced_by f (take (i + 1) xs) ≡ spaced_by f (take i xs) ++ spaced_by f (get_or xs i z ∷ [])
    spaced-step = rw (add-one i, take-suc xs i z) (spaced-append (take i xs) (get_or xs i z ∷ []))

    -- room for all of them is room for those
    pub spaced-room :
        {t : List ℕ} {at : ℕ} → RoomFor (spaced_by f xs) t at → RoomFor (spaced_by f (take i xs) ++ spaced_by f (get_or xs i z ∷ [])) t at
    spaced-room {t} {at} room =
        let one = get_or xs i z ∷ [] in
        let split =
        ap (spaced_by f) (split_at xs i z h)
        ∙ spaced-append (take i xs) (get_or xs i z ∷ drop (suc i) xs)
        ∙ ap (λ (bytes : List ℕ). spaced_by f (take i xs) ++ bytes) (spaced-append one (drop (suc i) xs))
        ∙ sym (append_assoc (spaced_by f (take i xs)) (spaced_by f one) (spaced_by f (drop (suc i) xs))) in
        room-first (spaced_by f (take i xs) ++ spaced_by f one) (spaced_by f (drop (suc i) xs))
        (subst (λ (bytes : List ℕ). RoomFor bytes t at) split room)

-- a line of two halves: what comes up to the sign v, and the line of what comes after it
pub line-halves : (w x v y : List ℕ) → line (w ++ x ++ (v ++ y)) ≡ w ++ x ++ v ++ line y
line-halves w x v y = simp append_assoc
