-- Texts taken apart: a line ends its piece at its line feed, and a word ends at the space after it, since no digit is either, nor is a minus
-- sign. By recursion on the bytes. Assumes nothing.
use mathlib.Core.Path.{◌≡◌, refl, sym, ◌∙◌, ap}
use mathlib.Core.Bool.{Bool, true, not, ◌&&◌, and-eq-true_iff}
use mathlib.Core.List.{List, [], ◌∷◌, ◌++◌, map, append_assoc, append-nil}
use Prim.Native.Nat.{ℕ, suc, ◌+◌, ◌≤◌, ◌<◌}
use native.Mathlib.Omega.{arith}
use lib.Dec.{eqb}
use lib.IntN.{ℤ, pos, negsuc}
use lib.ListN.{length, get_or}
use borrow.Author.Tests.{ne_eqb, eq-eqb, not-true}
use Rattle.text.specs.Decimal.{decimal, minus, integer}
use Rattle.text.specs.Text.{line_feed, space, line, spaced_by, pieces}
use Rattle.text.proofs.Decimal.{decimals}

-- none of the bytes is c
abbrev pub free : ℕ → List ℕ → Bool
free c [] = true
free c (b ∷ bytes) = not (eqb b c) && free c bytes

pub free-append : (c : ℕ) (x y : List ℕ) → free c x ≡ true → free c y ≡ true → free c (x ++ y) ≡ true
free-append c [] y h k = k
free-append c (b ∷ x) y h k =
    let p = (and-eq-true_iff (not (eqb b c)) (free c x)).0 h in
    (and-eq-true_iff (not (eqb b c)) (free c (x ++ y))).1 (p.0, free-append c x y p.1 k)

-- no digit is a byte below the minus sign, as a line feed and a space are
free_digits : (c : ℕ) → c < minus → (bytes : List ℕ) → ((i : ℕ) → i < length bytes → 48 ≤ get_or bytes i 0) → free c bytes ≡ true
free_digits c l [] h = refl
free_digits c l (b ∷ bytes) h =
    rw (ne_eqb b c (λ e. omega (arith, h 0 (omega arith)))) (free_digits c l bytes (λ i k. h (suc i) (omega arith)))

pub free-decimal : (c : ℕ) → c < minus → (n : ℕ) → free c (decimal n) ≡ true
free-decimal c l n = free_digits c l (decimal n) (decimals n).low

pub free-integer : (c : ℕ) → c < minus → (v : ℤ) → free c (integer v) ≡ true
unfolding integer
free-integer c l (pos n) = free-decimal c l n
free-integer c l (negsuc n) = rw (ne_eqb minus c (λ e. omega arith)) (free-decimal c l (n + 1))

module _ (c : ℕ) where
  pieces-free : (x : List ℕ) → free c x ≡ true → pieces c x ≡ x ∷ []
  unfolding pieces
  pieces-free [] h = refl
  pieces-free (b ∷ x) h =
      let p = (and-eq-true_iff (not (eqb b c)) (free c x)).0 h in
      rw (not-true (eqb b c) p.0, pieces-free x p.1)

  pub pieces-at : (x y : List ℕ) → free c x ≡ true → pieces c (x ++ c ∷ y) ≡ x ∷ pieces c y
  unfolding pieces
  pieces-at [] y h = rw (eq-eqb c c refl)
  pieces-at (b ∷ x) y h =
      let p = (and-eq-true_iff (not (eqb b c)) (free c x)).0 h in
      rw (not-true (eqb b c) p.0, pieces-at x y p.1)

-- a line, and the text after it
pub pieces-line : (x y : List ℕ) → free line_feed x ≡ true → pieces line_feed (line x ++ y) ≡ x ∷ pieces line_feed y
pieces-line x y h = rw (append_assoc x (line_feed ∷ []) y) (pieces-at line_feed x y h)

-- the bytes of each entry have neither line feeds nor spaces in them
abbrev pub OneWord : {A : Type 0} → (A → List ℕ) → Type 0
OneWord {A} f = (c : ℕ) → c < minus → (x : A) → free c (f x) ≡ true

module _ {A : Type 0} (f : A → List ℕ) (one : OneWord f) where
  -- no entry brings a line feed
  pub free-spaced : (xs : List A) → free line_feed (spaced_by f xs) ≡ true
  unfolding spaced_by
  free-spaced [] = refl
  free-spaced (x ∷ xs) = free-append line_feed (f x) (spaced_by f xs) (one line_feed (omega arith) x) (free-spaced xs)

  -- a word and entries
  pub pieces-words : (w : List ℕ) (xs : List A) → free space w ≡ true → pieces space (w ++ spaced_by f xs) ≡ w ∷ map f xs
  unfolding spaced_by
  pieces-words w [] h = rw append-nil (pieces-free space w h)
  pieces-words w (x ∷ xs) h =
      pieces-at space w (f x ++ spaced_by f xs) h
      ∙ ap (λ (ps : List (List ℕ)). w ∷ ps) (pieces-words (f x) xs (one space (omega arith) x))

  -- and more words after them
  pub pieces-words-rest :
      (w : List ℕ) (xs : List A) (y : List ℕ) →
      free space w ≡ true → pieces space (w ++ spaced_by f xs ++ (space ∷ y)) ≡ (w ∷ map f xs) ++ pieces space y
  unfolding spaced_by
  pieces-words-rest w [] y h = rw append-nil (pieces-at space w y h)
  pieces-words-rest w (x ∷ xs) y h =
      ap (pieces space)
      (append_assoc w (spaced_by f (x ∷ xs)) (space ∷ y)
      ∙ ap (λ (z : List ℕ). w ++ z) (append_assoc (space ∷ f x) (spaced_by f xs) (space ∷ y)))
      ∙ pieces-at space w (f x ++ (spaced_by f xs ++ (space ∷ y))) h
      ∙ ap (λ (z : List ℕ). w ∷ pieces space z) (sym (append_assoc (f x) (spaced_by f xs) (space ∷ y)))
      ∙ ap (λ (ps : List (List ℕ)). w ∷ ps) (pieces-words-rest (f x) xs y (one space (omega arith) x))
