-- Laws of lists: a map of an append and an entry of a map, entries one by one, and the write that extends a list kept in the front of
-- another; equal entries. Each by recursion or by the laws of lib.Seq.
use mathlib.Core.Path.{◌≡◌, refl, sym, ◌∙◌, ap}
use mathlib.Core.List.{List, [], ◌∷◌, ◌++◌, map}
use Prim.Native.Nat.{ℕ, zero, suc, ◌+◌, ◌-◌, ◌<◌, ◌≤◌}
use native.Mathlib.Numerals.{add-one}
use native.Mathlib.Omega.{arith}
use lib.ListN.{length, get_or, take, drop, set, replicate}
use lib.Seq.{append_snoc, drop-cons, drop-drop, set_at, take-suc}

pub map-append {ℓ κ} : {A : Type ℓ} {B : Type κ} (f : A → B) (xs ys : List A) → map f (xs ++ ys) ≡ map f xs ++ map f ys
map-append f [] ys = refl
map-append f (x ∷ xs) ys = ap (λ zs. f x ∷ zs) (map-append f xs ys)

-- an entry of a map
pub map-entry : {A B : Type 0} (f : A → B) (l : List A) (i : ℕ) (a : A) (b : B) → i < length l → get_or (map f l) i b ≡ f (get_or l i a)
map-entry f [] i a b h = absurd (omega arith)
map-entry f (x ∷ xs) zero a b h = refl
map-entry f (x ∷ xs) (suc i) a b h = map-entry f xs i a b (omega arith)

-- the n entries of a list from i on, one by one
abbrev pub entries : ℕ → List ℕ → ℕ → List ℕ
entries zero l i = []
entries (suc n) l i = get_or l i 0 ∷ entries n l (i + 1)

pub entries_stretch : (n : ℕ) (l : List ℕ) (i : ℕ) → i + n ≤ length l → entries n l i ≡ take n (drop i l)
entries_stretch zero l i h = refl
entries_stretch (suc n) l i h =
    ap (λ t. get_or l i 0 ∷ t) (entries_stretch n l (i + 1) (omega arith))
    ∙ ap (λ j. get_or l i 0 ∷ take n (drop j l)) (add-one i)
    ∙ ap (take (suc n)) (sym (drop-cons l i 0 (omega arith)))

-- a list kept in the first k entries of another grows by the write of entry k
pub set_front : (p rest : List ℕ) (k a : ℕ) → length p ≡ k → 0 < length rest → set (p ++ rest) k a ≡ p ++ (a ∷ []) ++ drop 1 rest
set_front p [] k a e h = absurd (omega arith)
set_front p (y ∷ ys) k a e h = set_at p y ys a k e ∙ sym (append_snoc p a ys)

-- the map of one entry more
pub map-take : (f : ℕ → ℕ) (ws : List ℕ) (i : ℕ) → i < length ws → map f (take (i + 1) ws) ≡ map f (take i ws) ++ (f (get_or ws i 0) ∷ [])
map-take f ws i h = rw (add-one i, take-suc ws i 0) (map-append f (take i ws) (get_or ws i 0 ∷ []))

-- what two lists share past n they share past m
pub drop-later : (xs ys : List ℕ) (n m : ℕ) → n ≤ m → drop n xs ≡ drop n ys → drop m xs ≡ drop m ys
drop-later xs ys n m h e =
    let q : n + (m - n) ≡ m = omega arith in
    ap (λ k. drop k xs) (sym q) ∙ sym (drop-drop (m - n) n xs) ∙ ap (drop (m - n)) e ∙ drop-drop (m - n) n ys ∙ ap (λ k. drop k ys) q

-- all but n of m equal entries
pub drop-replicate : (n m a : ℕ) → drop n (replicate m a) ≡ replicate (m - n) a
drop-replicate zero m a = let e : m ≡ m - 0 = omega arith in ap (λ k. replicate k a) e
drop-replicate (suc n) zero a = let e : 0 ≡ 0 - suc n = omega arith in ap (λ k. replicate k a) e
drop-replicate (suc n) (suc m) a = let e : m - n ≡ suc m - suc n = omega arith in drop-replicate n m a ∙ ap (λ k. replicate k a) e
