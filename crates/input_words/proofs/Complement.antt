-- The complement −1 − z of an integer, and how the machine takes it: an integer that 64 bits hold has its complement there too, and what is read
-- back from the bits of an integer is that integer.
-- Assumes nothing.
use mathlib.Core.Path.{◌≡◌, sym, ◌∙◌, ap, subst}
use Prim.Native.Nat.{ℕ, suc, ◌+◌}
use native.Mathlib.Omega.{arith}
use borrow.Author.Tests.{le-ltb}
use lib.IntN.{ℤ, pos, negsuc, ◌-ℤ◌}
use lib.Signed.{mag}
use mir.Syntax.{w64}
use mir.Val.{SFits, to_z, of_z}
use mir.ValLaws.{to_z-of_z}
use Rattle.integers.proofs.Ring.{sub-push, sub_eq}

-- of a natural number, and of a negative one
less_pos : (k a : ℕ) → negsuc k -ℤ pos a ≡ negsuc (k + a)
less_pos k a = simp sub-push (sub_eq _ _ _ _ (omega arith))

pub complement_pos : (a : ℕ) → negsuc 0 -ℤ pos a ≡ negsuc a
complement_pos a = less_pos 0 a ∙ ap negsuc (omega arith)

pub complement_negsuc : (a : ℕ) → negsuc 0 -ℤ negsuc a ≡ pos a
complement_negsuc a = rw (le-ltb (suc a) 1 (omega arith)) (ap pos (omega arith))

complement_size : (z : ℤ) → mag (negsuc 0 -ℤ z) ≡ mag z
complement_size (pos a) = ap mag (complement_pos a)
complement_size (negsuc a) = ap mag (complement_negsuc a)

pub complement_fits : (z v : ℤ) → v ≡ z → SFits w64 z → SFits w64 (negsuc 0 -ℤ v)
complement_fits z v e f = subst (λ y. SFits w64 (negsuc 0 -ℤ y)) (sym e) (record { sfits = omega (arith, complement_size z, f.sfits) })

pub complement_read : (z v : ℤ) → v ≡ z → SFits w64 z → to_z w64 (of_z w64 (negsuc 0 -ℤ v)) ≡ negsuc 0 -ℤ z
complement_read z v e f = to_z-of_z w64 (negsuc 0 -ℤ v) (complement_fits z v e f) ∙ ap (λ y. negsuc 0 -ℤ y) e
