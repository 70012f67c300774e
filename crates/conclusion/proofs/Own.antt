-- The program's own calls, as numbers.
use mathlib.Core.List.{List}
use mathlib.Core.Path.{refl}
use Prim.Native.Nat.{ℕ}
use Rattle.conclusion.specs.Conclusion.{OwnCalls}

pub own_calls : (f₁ f₂ : List ℕ) → OwnCalls f₁ f₂
own_calls f₁ f₂ = record { first = refl; second = refl; budget = refl; scratch = refl }
