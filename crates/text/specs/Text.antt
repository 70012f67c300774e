-- Text as bytes (document 01, 'Pairs'): decimal numbers and integers, single spaces, a line feed at the end of each line; and texts taken apart
-- again, by their bytes alone.
--   ascii text         the bytes of a text: the codes of its characters
--   line_feed           the byte of a line feed
--   space              the byte of a space
--   line bytes         the bytes as a line, with a line feed at its end
--   spaced_by f xs      the bytes f x of each entry x, after one space
--   spaced ns          each number in decimal, after one space
--   spaced_integers vs  each integer, after one space
--   words text ns      the text, and the numbers after it
--   pieces c bytes     the pieces of the bytes between those that are c, one more than there are of these
--   lines_of text       the pieces between line feeds. Where each line ends in a line feed, the last piece is empty
--   words_of line       the pieces between spaces
use Rattle.std.specs.Prelude.{cond, List, [], ◌∷◌, ◌++◌, ℕ, eqb, ℤ}
use Prim.Native.Char.{code}
use Prim.Native.String.{String, [] as nil, ◌∷◌ as ◌&◌}
use Rattle.text.specs.Decimal.{decimal, integer}

abbrev pub ascii : String → List ℕ
ascii nil = []
ascii (c & text) = code c ∷ ascii text

abbrev pub line_feed : ℕ
line_feed = 10

abbrev pub space : ℕ
space = 32

abbrev pub line : List ℕ → List ℕ
line bytes = bytes ++ (line_feed ∷ [])

unfoldable pub spaced_by : {A : Type 0} → (A → List ℕ) → List A → List ℕ
spaced_by f [] = []
spaced_by f (x ∷ xs) = (space ∷ f x) ++ spaced_by f xs

abbrev pub spaced : List ℕ → List ℕ
spaced ns = spaced_by decimal ns

abbrev pub spaced_integers : List ℤ → List ℕ
spaced_integers vs = spaced_by integer vs

abbrev pub words : String → List ℕ → List ℕ
words text ns = ascii text ++ spaced ns

-- the byte b before the first of several pieces
abbrev pub on_first : ℕ → List (List ℕ) → List (List ℕ)
on_first b [] = []
on_first b (piece ∷ rest) = (b ∷ piece) ∷ rest

unfoldable pub pieces : ℕ → List ℕ → List (List ℕ)
pieces c [] = [] ∷ []
pieces c (b ∷ bytes) = cond (eqb b c) ([] ∷ pieces c bytes) (on_first b (pieces c bytes))

abbrev pub lines_of : List ℕ → List (List ℕ)
lines_of text = pieces line_feed text

abbrev pub words_of : List ℕ → List (List ℕ)
words_of line = pieces space line
