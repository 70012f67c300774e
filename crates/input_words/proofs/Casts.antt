-- What the machine makes of a word that it takes as an integer, and of an integer that it takes as a word, is what the definitions say; and the
-- lowest integer of 64 bits, shifted, is the lowest value of n bits.
-- Assumes nothing.
use mathlib.Core.Bool.{true, false, ◌&&◌}
use mathlib.Core.Path.{◌≡◌, sym, ◌∙◌, ap, ap₂}
use Prim.Native.Nat.{ℕ, zero, suc, ◌+◌, ◌*◌, ◌-◌, ◌/◌, ◌^◌, ◌≤◌, ◌<◌}
use native.Mathlib.Numerals.{unary_clauses}
use native.Mathlib.Omega.{arith}
use lib.IntN.{ℤ, pos, negsuc, ◌-ℤ◌}
use lib.Pow.{pow_pos}
use lib.Signed.{le_z}
use mir.Syntax.{w64}
use mir.Val.{Fits, SFits, to_z, of_z}
use mir.ValLaws.{to_z-neg, to_z-of_z, of_z-to_z, to_z-Fits}
use Rattle.std.proofs.Common.{pow-add}
use Rattle.std.proofs.lemmas.Nat.{div-mul-add}
use Rattle.formats.specs.Formats.{lowest}
use Rattle.formats.specs.declared.Format.{Format}
use Rattle.words.specs.Words.{word}
use Rattle.words.proofs.Congruence.{word_pos}
use Rattle.input_words.specs.InputWords.{Usable, signed_value, in_format}
use Rattle.input_words.proofs.Complement.{complement_read}
use Rattle.input_words.proofs.InputWords.{word-negative, signed_word, lowest-signed, half_most, in_signed}

-- the word of an integer
pub cast_unsigned-word : (x : ℤ) → SFits w64 x → of_z w64 x ≡ word x
cast_unsigned-word (pos a) f = sym (word_pos a (omega (arith, f.sfits)))
cast_unsigned-word (negsuc a) f = sym (word-negative a (omega (arith, f.sfits)))

-- the integer of a word
pub cast_signed-value : (w : ℕ) → Fits w64 w → to_z w64 w ≡ signed_value w
cast_signed-value w f =
    let x = to_z w64 w in
    let fits = to_z-Fits w64 w f in
    sym (signed_word x fits.sfits) ∙ ap signed_value (sym (cast_unsigned-word x fits) ∙ of_z-to_z w64 w f)

less_one : (a b : ℕ) → 0 < a → 0 < b → (a - 1) * b + (b - 1) ≡ a * b - 1
less_one zero b h k = absurd (omega arith)
less_one (suc a) b h k = simp unary_clauses (omega arith)

-- 2^63 − 1 divided by 2^(64 − n), rounded down
shifted_most : (n : ℕ) → 1 ≤ n → n ≤ 64 → (2 ^ 63 - 1) / 2 ^ (64 - n) ≡ 2 ^ (n - 1) - 1
shifted_most n low high =
    let whole : n - 1 + (64 - n) ≡ 63 = omega arith in
    let product : 2 ^ 63 ≡ 2 ^ (n - 1) * 2 ^ (64 - n) = rw whole at (pow-add 2 (n - 1) (64 - n)) in
    let parts : 2 ^ 63 - 1 ≡ (2 ^ (n - 1) - 1) * 2 ^ (64 - n) + (2 ^ (64 - n) - 1) =
    omega (arith, product, less_one (2 ^ (n - 1)) (2 ^ (64 - n)) (pow_pos (n - 1)) (pow_pos (64 - n))) in
    ap (λ x. x / 2 ^ (64 - n)) parts ∙ div-mul-add (2 ^ (n - 1) - 1) (2 ^ (64 - n)) (2 ^ (64 - n) - 1) (omega (arith, pow_pos (64 - n)))

pub lowest-shifted : (f : Format) → f.signed ≡ true → Usable f → to_z w64 (2 ^ 64 - suc ((2 ^ 63 - 1) / 2 ^ (64 - f.length))) ≡ lowest f
lowest-shifted f s u =
    ap (λ x. to_z w64 (2 ^ 64 - suc x)) (shifted_most f.length u.low u.high)
    ∙ to_z-neg w64 (2 ^ (f.length - 1) - 1) (omega (arith, half_most f u, pow_pos (f.length - 1)))
    ∙ sym (lowest-signed f s)

-- the integer z, as its bits give it
abbrev pub back : ℤ → ℤ
back z = to_z w64 (of_z w64 z)

-- the two tests of a signed input, as the machine makes them: the word's value is at least the lowest, and at most the highest
pub in_tests :
    (f : Format) (w : ℕ) (low x : ℤ)
    → f.signed ≡ true
    → 1 ≤ f.length
    → low ≡ lowest f
    → x ≡ signed_value w
    → SFits w64 low
    → SFits w64 x
    → in_format f w ≡ (le_z (back low) (back x) && le_z (back x) (back (negsuc 0 -ℤ back low)))
in_tests f w low x s n e k fits fits-x =
    let l = to_z-of_z w64 low fits in
    let y = to_z-of_z w64 x fits-x in
    let h = complement_read low (back low) l fits in
    in_signed f w s n
    ∙ sym (ap₂ (λ u v. le_z u v && le_z v (negsuc 0 -ℤ u)) e k)
    ∙ sym (λ i. le_z (l i) (y i) && le_z (y i) (h i))

pub in_then :
    (f : Format) (w : ℕ) (low x : ℤ)
    → f.signed ≡ true
    → 1 ≤ f.length
    → low ≡ lowest f
    → x ≡ signed_value w
    → SFits w64 low
    → SFits w64 x
    → le_z (back low) (back x) ≡ true
    → le_z (back x) (back (negsuc 0 -ℤ back low)) ≡ in_format f w
in_then f w low x s n e k fits fits-x t = sym (in_tests f w low x s n e k fits fits-x ∙ ap (λ b. b && le_z (back x) (back (negsuc 0 -ℤ back low))) t)

pub in_else :
    (f : Format) (w : ℕ) (low x : ℤ)
    → f.signed ≡ true
    → 1 ≤ f.length
    → low ≡ lowest f
    → x ≡ signed_value w
    → SFits w64 low
    → SFits w64 x
    → le_z (back low) (back x) ≡ false
    → in_format f w ≡ false
in_else f w low x s n e k fits fits-x t = in_tests f w low x s n e k fits fits-x ∙ ap (λ b. b && le_z (back x) (back (negsuc 0 -ℤ back low))) t
