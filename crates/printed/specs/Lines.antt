-- The lines that a comparison prints (document 01, 'Pairs').
--   refusal_line r        refused: number, file, step
--   grid_line us G        the grid: its axes and its size
--   differ_line x o₁ o₂   the datapaths differ: the vector, a negative value with a minus sign, and both outputs
--   equivalent_line       they are equivalent
--   run_line n            the vectors run
use Rattle.std.specs.Prelude.{List, [], ◌∷◌, ◌++◌, ℕ, ℤ}
use Rattle.sizes.specs.declared.Refusal.{Refusal}
use Rattle.text.specs.Text.{ascii, line, spaced_integers, words}

unfoldable pub refusal_line : Refusal → List ℕ
refusal_line r = line (words "refused" (r.number ∷ r.file ∷ r.step ∷ []))

unfoldable pub grid_line : List ℕ → ℕ → List ℕ
grid_line us G = line (words "grid" us ++ words " =" (G ∷ []))

unfoldable pub differ_line : List ℤ → ℕ → ℕ → List ℕ
differ_line x o₁ o₂ = line (ascii "differ" ++ spaced_integers x ++ words " :" (o₁ ∷ o₂ ∷ []))

unfoldable pub equivalent_line : List ℕ
equivalent_line = line (ascii "equivalent")

unfoldable pub run_line : ℕ → List ℕ
run_line n = line (words "run" (n ∷ []))
