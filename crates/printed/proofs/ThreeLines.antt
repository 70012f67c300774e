-- The grid, a line and the vectors run, one after the other, are three lines, and so are their words: no number brings a line feed, and each
-- line is taken apart into its words. The words of a difference. Assumes nothing.
use mathlib.Core.Path.{◌≡◌, refl, ◌∙◌, ap}
use mathlib.Core.Bool.{true}
use mathlib.Core.List.{List, [], ◌∷◌, ◌++◌, map, append_assoc}
use Prim.Native.Nat.{ℕ}
use lib.IntN.{ℤ}
use Rattle.fields.specs.File.{sizes_of}
use Rattle.grid.specs.Grid.{axes_of, grid_size}
use Rattle.printed.specs.Claims.{differ_words, ThreeLines}
use Rattle.text.specs.Decimal.{decimal, integer}
use Rattle.printed.specs.Report.{grid_text}
use Rattle.text.specs.Text.{ascii, line_feed, space, line, spaced_by, spaced, spaced_integers, words, pieces, lines_of, words_of}
use Rattle.printed.specs.Lines.{grid_line, run_line}
use Rattle.text.proofs.Pieces.{free, OneWord, free-append, free-decimal, free-integer, free-spaced, pieces-at, pieces-line, pieces-words, pieces-words-rest}

-- a word and numbers have no line feed
pub numbers_free : (w ns : List ℕ) → free line_feed w ≡ true → free line_feed (w ++ spaced ns) ≡ true
numbers_free w ns h = free-append line_feed w (spaced ns) h (free-spaced decimal free-decimal ns)

-- a word and entries, and a sign and numbers after them
module _ {A : Type 0} (f : A → List ℕ) (one : OneWord f) (w : List ℕ) (xs : List A) (v ns : List ℕ) where
  two-free : free line_feed w ≡ true → free line_feed v ≡ true → free line_feed (w ++ spaced_by f xs ++ (v ++ spaced ns)) ≡ true
  two-free h k =
      free-append line_feed (w ++ spaced_by f xs) (v ++ spaced ns) (free-append line_feed w (spaced_by f xs) h (free-spaced f one xs))
      (numbers_free v ns k)

  two-words :
      free space w ≡ true → free space v ≡ true →
      pieces space (w ++ spaced_by f xs ++ (space ∷ v ++ spaced ns)) ≡ (w ∷ map f xs) ++ (v ∷ map decimal ns)
  two-words h k =
      pieces-words-rest f one w xs (v ++ spaced ns) h
      ∙ ap (λ (ps : List (List ℕ)). (w ∷ map f xs) ++ ps) (pieces-words decimal free-decimal v ns k)

-- a line alone, and three lines
pub lines_of_one : (r : List ℕ) → free line_feed r ≡ true → lines_of (line r) ≡ r ∷ [] ∷ []
unfolding pieces
lines_of_one r h = pieces-at line_feed r [] h

lines_of_three :
    (g v r : List ℕ) → free line_feed g ≡ true → free line_feed v ≡ true → free line_feed r ≡ true →
    lines_of (line g ++ line v ++ line r) ≡ g ∷ v ∷ r ∷ [] ∷ []
lines_of_three g v r hg hv hr =
    ap lines_of (append_assoc (line g) (line v) (line r))
    ∙ pieces-line g (line v ++ line r) hg
    ∙ ap (λ (ps : List (List ℕ)). g ∷ ps) (pieces-line v (line r) hv ∙ ap (λ (ps : List (List ℕ)). v ∷ ps) (lines_of_one r hr))

-- the line of the grid, before its line feed
abbrev grid_bytes : List ℕ → List ℕ
grid_bytes f₁ = words "grid" (axes_of (sizes_of f₁)) ++ words " =" (grid_size (sizes_of f₁) ∷ [])

pub three_lines : (f₁ v : List ℕ) (n : ℕ) → free line_feed v ≡ true → ThreeLines f₁ n v (grid_text f₁ ++ line v ++ run_line n)
unfolding grid_text grid_line run_line
three_lines f₁ v n one =
    let us = axes_of (sizes_of f₁) in
    let G = grid_size (sizes_of f₁) in
    record {
      first = grid_bytes f₁;
      third = words "run" (n ∷ []);
      split =
          lines_of_three (grid_bytes f₁) v (words "run" (n ∷ []))
          (two-free decimal free-decimal (ascii "grid") us (ascii " =") (G ∷ []) refl refl)
          one
          (numbers_free (ascii "run") (n ∷ []) refl);
      grid = two-words decimal free-decimal (ascii "grid") us (ascii "=") (G ∷ []) refl refl;
      run = pieces-words decimal free-decimal (ascii "run") (n ∷ []) refl;
    }

-- the line of a difference, before its line feed
module _ (x : List ℤ) (o₁ o₂ : ℕ) where
  abbrev pub differ_bytes : List ℕ
  differ_bytes = ascii "differ" ++ spaced_integers x ++ words " :" (o₁ ∷ o₂ ∷ [])

  pub differ-free : free line_feed differ_bytes ≡ true
  differ-free = two-free integer free-integer (ascii "differ") x (ascii " :") (o₁ ∷ o₂ ∷ []) refl refl

  pub differ-words : words_of differ_bytes ≡ differ_words x o₁ o₂
  differ-words = two-words integer free-integer (ascii "differ") x (ascii ":") (o₁ ∷ o₂ ∷ []) refl refl
