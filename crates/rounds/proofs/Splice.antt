-- A list of which the first q entries are those of a, and the others those of b, as a loop has it that turns one list into the other, from
-- either end. By induction on the lists. Assumes nothing.
use Rattle.std.proofs.Common.{◌≡◌, ℕ, zero, suc, ◌<◌, ◌≤◌, List, [], ◌∷◌, ◌++◌, length, get_or, take, drop, set, refl, ap, ◌∙◌, ap₂, append-nil, arith, drop_of_length-le, length-take-le, take_all, get_or-take, ext_get_or}
use native.Mathlib.Decide.{dec_lt}
use lib.ListN.{get_or-append}

pub splice : ℕ → List ℕ → List ℕ → List ℕ
splice q a b = take q a ++ drop q b

pub length-splice : (q : ℕ) (a b : List ℕ) → length a ≡ length b → length (splice q a b) ≡ length b
unfolding splice
length-splice zero a b e = refl
length-splice (suc q) [] [] e = refl
length-splice (suc q) [] (y ∷ b) e = absurd (omega arith)
length-splice (suc q) (x ∷ a) [] e = absurd (omega arith)
length-splice (suc q) (x ∷ a) (y ∷ b) e = ap suc (length-splice q a b (omega arith))

pub splice-start : (a b : List ℕ) → splice 0 a b ≡ b
unfolding splice
splice-start a b = refl

pub splice_end : (q : ℕ) (a b : List ℕ) → length a ≤ q → length b ≤ q → splice q a b ≡ a
unfolding splice
splice_end q a b g h = ap₂ ◌++◌ (take_all q a g) (drop_of_length-le b h) ∙ append-nil a

pub get_or-splice-front : (q : ℕ) (a b : List ℕ) (i : ℕ) → q ≤ length a → i < q → get_or (splice q a b) i 0 ≡ get_or a i 0
unfolding splice
get_or-splice-front q a b i h l =
    get_or-append (take q a) (drop q b) 0 i (omega (arith, length-take-le q a h)) ∙ get_or-take q a i 0 l

pub get_or-splice-rest :
    (q : ℕ) (a b : List ℕ) (i : ℕ) → length a ≡ length b → q ≤ i → get_or (splice q a b) i 0 ≡ get_or b i 0
unfolding splice
get_or-splice-rest zero a b i e h = refl
get_or-splice-rest (suc q) a b zero e h = absurd (omega arith)
get_or-splice-rest (suc q) [] [] (suc i) e h = refl
get_or-splice-rest (suc q) [] (y ∷ b) (suc i) e h = absurd (omega arith)
get_or-splice-rest (suc q) (x ∷ a) [] (suc i) e h = absurd (omega arith)
get_or-splice-rest (suc q) (x ∷ a) (y ∷ b) (suc i) e h = get_or-splice-rest q a b i (omega arith) (omega arith)

-- where a and b agree up to q
pub splice-same :
    (q : ℕ) (a b : List ℕ) → length a ≡ length b → q ≤ length a
    → ((i : ℕ) → i < q → get_or a i 0 ≡ get_or b i 0) → splice q a b ≡ b
splice-same q a b e h same =
    ext_get_or 0 (splice q a b) b (length-splice q a b e) (λ i l. by i (dec_lt i q))
  where
    by : (i : ℕ) → Dec (i < q) → get_or (splice q a b) i 0 ≡ get_or b i 0
    by i (yes l) = get_or-splice-front q a b i h l ∙ same i l
    by i (no l) = get_or-splice-rest q a b i e (omega arith)

-- one more entry of a, and one more of b
pub splice_up :
    (q : ℕ) (a b : List ℕ) → length a ≡ length b → q < length a → set (splice q a b) q (get_or a q 0) ≡ splice (suc q) a b
unfolding splice
splice_up q [] b e h = absurd (omega arith)
splice_up q (x ∷ a) [] e h = absurd (omega arith)
splice_up zero (x ∷ a) (y ∷ b) e h = refl
splice_up (suc q) (x ∷ a) (y ∷ b) e h = ap (λ (l : List ℕ). x ∷ l) (splice_up q a b (omega arith) (omega arith))

pub splice-down :
    (q : ℕ) (a b : List ℕ) → length a ≡ length b → q < length a → set (splice (suc q) a b) q (get_or b q 0) ≡ splice q a b
unfolding splice
splice-down q [] b e h = absurd (omega arith)
splice-down q (x ∷ a) [] e h = absurd (omega arith)
splice-down zero (x ∷ a) (y ∷ b) e h = refl
splice-down (suc q) (x ∷ a) (y ∷ b) e h = ap (λ (l : List ℕ). x ∷ l) (splice-down q a b (omega arith) (omega arith))
