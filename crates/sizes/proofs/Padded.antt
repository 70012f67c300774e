-- The entries of a padded list are the list's own: past its end these are 0, as the zeros are that fill it up. It has max_inputs entries, unless
-- the list has more. Assumes nothing.
use mathlib.Core.Path.{◌≡◌, refl}
use mathlib.Core.List.{List, [], ◌∷◌, ◌++◌}
use Prim.Native.Nat.{ℕ, zero, suc, ◌-◌, ◌≤◌}
use native.Mathlib.Omega.{arith}
use lib.ListN.{length, get_or, replicate, length-append, length-replicate}
use Rattle.sizes.specs.Padded.{padded}
use Rattle.sizes.specs.Sizes.{max_inputs}

padding_entry : (v : List ℕ) (n i : ℕ) → get_or (v ++ replicate n 0) i 0 ≡ get_or v i 0
padding_entry [] zero i = refl
padding_entry [] (suc n) zero = refl
padding_entry [] (suc n) (suc i) = padding_entry [] n i
padding_entry (x ∷ v) n zero = refl
padding_entry (x ∷ v) n (suc i) = padding_entry v n i

pub length-padded : (v : List ℕ) → length v ≤ max_inputs → length (padded v) ≡ max_inputs
length-padded v h = simp (length-append, length-replicate) (omega arith)

pub padded-entry : (v : List ℕ) (i : ℕ) → get_or (padded v) i 0 ≡ get_or v i 0
padded-entry v i = padding_entry v (max_inputs - length v) i
