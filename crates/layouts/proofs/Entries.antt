-- A list of n entries and two more, taken apart. By the laws of lib.Seq. Assumes nothing.
use mathlib.Core.List.{List, [], ◌∷◌, ◌++◌}
use mathlib.Core.Path.{◌≡◌, refl, sym, ◌∙◌, ap}
use Prim.Native.Nat.{ℕ, zero, suc, ◌+◌}
use native.Mathlib.Omega.{arith}
use lib.ListN.{length, get_or, take, set}
use lib.Seq.{take_at, get_or_at, get_or-append-add}

-- n entries and the two after them
pub two-last : (n : ℕ) (l : List ℕ) → length l ≡ n + 2 → take n l ++ (get_or l n 0 ∷ get_or l (n + 1) 0 ∷ []) ≡ l
two-last zero [] e = absurd (omega arith)
two-last zero (x ∷ []) e = absurd (omega arith)
two-last zero (x ∷ y ∷ []) e = refl
two-last zero (x ∷ y ∷ z ∷ l) e = absurd (omega arith)
two-last (suc n) [] e = absurd (omega arith)
two-last (suc n) (x ∷ l) e =
    let q : suc n + 1 ≡ suc (n + 1) = omega arith in
    ap (λ j. x ∷ (take n l ++ (get_or l n 0 ∷ get_or (x ∷ l) j 0 ∷ []))) q ∙ ap (λ k. x ∷ k) (two-last n l (omega arith))

-- n entries, and two that are written after them
pub two-written :
    (n : ℕ) (l rest : List ℕ) (a b : ℕ) → length l ≡ n → length rest ≡ 2 →
    set (set (l ++ rest) n a) (n + 1) b ≡ l ++ (a ∷ b ∷ [])
two-written zero [] [] a b e h = absurd (omega arith)
two-written zero [] (x ∷ []) a b e h = absurd (omega arith)
two-written zero [] (x ∷ y ∷ []) a b e h = refl
two-written zero [] (x ∷ y ∷ z ∷ rest) a b e h = absurd (omega arith)
two-written zero (x ∷ l) rest a b e h = absurd (omega arith)
two-written (suc n) [] rest a b e h = absurd (omega arith)
two-written (suc n) (x ∷ l) rest a b e h =
    let q : suc n + 1 ≡ suc (n + 1) = omega arith in
    ap (λ j. set (set (x ∷ (l ++ rest)) (suc n) a) j b) q ∙ ap (λ k. x ∷ k) (two-written n l rest a b (omega arith) h)

-- the parts of n entries and two more
module _ (n : ℕ) (l : List ℕ) (a b : ℕ) (e : length l ≡ n) where
  pub front : take n (l ++ (a ∷ b ∷ [])) ≡ l
  front = take_at l (a ∷ b ∷ []) n e

  pub next : get_or (l ++ (a ∷ b ∷ [])) n 0 ≡ a
  next = get_or_at l a (b ∷ []) 0 n e

  pub last : get_or (l ++ (a ∷ b ∷ [])) (n + 1) 0 ≡ b
  last = ap (λ k. get_or (l ++ (a ∷ b ∷ [])) (k + 1) 0) (sym e) ∙ get_or-append-add l (a ∷ b ∷ []) 1 0
