-- The words of the answer about operation bytes, by its cases. Assumes nothing.
use mathlib.Core.Path.{◌≡◌, ◌∙◌, ap}
use mathlib.Core.Logic.{◌⊎◌, ⊎_elim}
use mathlib.Core.List.{List, [], ◌∷◌}
use Prim.Native.Nat.{ℕ, ◌≤◌}
use native.Mathlib.Decide.{ℕ_discrete}
use native.Mathlib.Omega.{arith}
use lib.ListN.{length, length-take, length-drop}
use borrow.Author.Tests.{eq-eqb, ne_eqb}
use Rattle.file.specs.Check.{file_number, stretch_of}
use Rattle.fields.specs.File.{short_head, head_of, step_count, operations_of}
use Rattle.fields.proofs.Heads.{head-short}
use Rattle.file.proofs.Accepted.{accepted}
use Rattle.file.proofs.Number.{stretch_accepted, stretch_refused}
use Rattle.file_calls.specs.FileCalls.{operation_words}

module _ (s : List ℕ) where
  operations-accepted : file_number s ≡ 0 → operation_words s ≡ head_of s ∷ step_count s ∷ []
  unfolding operation_words
  operations-accepted e = rw (eq-eqb (file_number s) 0 e)

  operations-refused : ¬ (file_number s ≡ 0) → operation_words s ≡ 0 ∷ 0 ∷ []
  unfolding operation_words
  operations-refused n = rw (ne_eqb (file_number s) 0 n)

  -- the stretch of an accepted file has N bytes
  length_stretch : file_number s ≡ 0 → length (stretch_of s) ≡ step_count s
  unfolding operations_of
  length_stretch e =
      let a = accepted s e in
      rw (stretch_accepted s e, length-take, length-drop) (omega (arith, a.size))

  -- a file whose stretch has a byte has a head
  pub stretch_head : ¬ (length (stretch_of s) ≡ 0) → short_head ≤ length s
  stretch_head n =
      elim (ℕ_discrete (file_number s) 0) [
        | yes z ↦ head-short s (accepted s z).long
        | no x ↦ absurd (n (ap length (stretch_refused s x)))
      ]

  -- start and length, as the code tells them by the length
  pub operations-told :
      (start n : ℕ) → n ≡ length (stretch_of s) → ((n ≡ 0) × (start ≡ 0)) ⊎ ((¬ (n ≡ 0)) × (start ≡ head_of s)) →
      start ∷ n ∷ [] ≡ operation_words s
  operations-told start n e t =
      elim (ℕ_discrete (file_number s) 0) [
        | yes z ↦ let l = length_stretch z in
            ⊎_elim (λ w. absurd (omega (arith, e, l, (accepted s z).count_low, w.0))) (λ w. cc (operations-accepted z)) t
        | no x ↦ let l = stretch_refused s x in
            let k : length (stretch_of s) ≡ 0 = rw l in
            ⊎_elim (λ w. cc (operations-refused x)) (λ w. absurd (w.0 (e ∙ k))) t
      ]
