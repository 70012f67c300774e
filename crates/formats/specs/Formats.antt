-- The number format of an input and its values (document 01, 'Output, grid and order'; document 02, T-01).
--   lowest f          the lowest value of an input: −2^(n − 1) where it is signed, and 0 where it is not
--   highest f         the highest: 2^n − 1 above the lowest
--   Ends              so it is 2^(n − 1) − 1 where the input is signed, and 2^n − 1 where it is not. Proved in proofs/Ends
--   EndsInFigures     the ends of a signed input of 1 bit and of 64 bits, as numbers. Proved there
--   InFormat f v      the integer v is a value of the input: from its lowest to its highest
--   FullWidth fs x    the vector x is full-width: it has one value for each of the inputs fs, each a value of its input
use Rattle.std.specs.Prelude.{true, false, cond, List, [], ◌∷◌, ◌≡◌, ℕ, ◌-◌, ◌^◌, ◌≤◌, ℤ, pos, neg_ℤ, ◌+ℤ◌, ◌-ℤ◌, ◌≤ℤ◌}
use Rattle.formats.specs.declared.Format.{Format}

unfoldable pub lowest : Format → ℤ
lowest f = cond f.signed (neg_ℤ (pos (2 ^ (f.length - 1)))) (pos 0)

unfoldable pub highest : Format → ℤ
highest f = lowest f +ℤ pos (2 ^ f.length - 1)

pub record Ends : Type 0 where
  pub signed : (f : Format) → f.signed ≡ true → 1 ≤ f.length → highest f ≡ pos (2 ^ (f.length - 1)) -ℤ pos 1
  pub unsigned : (f : Format) → f.signed ≡ false → highest f ≡ pos (2 ^ f.length) -ℤ pos 1

abbrev pub signed_of : ℕ → Format
signed_of n = record { signed = true; length = n }

pub record EndsInFigures : Type 0 where
  pub lowest1 : lowest (signed_of 1) ≡ neg_ℤ (pos 1)
  pub highest1 : highest (signed_of 1) ≡ pos 0
  pub lowest64 : lowest (signed_of 64) ≡ neg_ℤ (pos 9223372036854775808)
  pub highest64 : highest (signed_of 64) ≡ pos 9223372036854775807

pub record InFormat (f : Format) (v : ℤ) : Type 0 where
  pub low : lowest f ≤ℤ v
  pub high : v ≤ℤ highest f

abbrev pub FullWidth : List Format → List ℤ → Type 0
FullWidth [] [] = Unit {0}
FullWidth [] (v ∷ x) = ⊥
FullWidth (f ∷ fs) [] = ⊥
FullWidth (f ∷ fs) (v ∷ x) = InFormat f v × FullWidth fs x
