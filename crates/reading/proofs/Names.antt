-- The calls with no file names or with two are those of one word and of three.
use mathlib.Core.Bool.{true}
use mathlib.Core.Logic.{◌⊎◌, inl, inr, ⊎_elim}
use mathlib.Core.Path.{◌≡◌}
use Prim.Native.Nat.{ℕ}
use native.Mathlib.Decide.{ℕ_discrete}
use borrow.Author.Tests.{eq-eqb, ne_eqb, eqb-true}
use Rattle.reading.specs.Reading.{NoneOrTwo}
use Rattle.reading.specs.Reading.{none_or_two as taken}

one_or_three : (count : ℕ) → taken count ≡ true → (count ≡ 1) ⊎ (count ≡ 3)
unfolding taken
one_or_three count e =
    elim (ℕ_discrete count 1) [
      | yes one ↦ inl one
      | no n ↦ inr (eqb-true count 3 (rw (ne_eqb count 1 n) at e))
    ]

pub none_or_two : NoneOrTwo
unfolding taken
none_or_two count = (one_or_three count, ⊎_elim (λ one. rw (eq-eqb count 1 one)) (λ three. rw three))
