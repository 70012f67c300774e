-- The cases of what making a table answers and leaves: each refusal under the tests that led to it, what an answer of number 0 tells, and the
-- written slices of accepted and refused calls. By the tests of the definitions.
use mathlib.Core.Bool.{true}
use mathlib.Core.Path.{◌≡◌, sym, ◌∙◌, ap}
use mathlib.Core.List.{List, ◌++◌}
use Prim.Native.Nat.{ℕ, ◌<◌, ◌≤◌}
use native.Mathlib.Decide.{dec_lt, ℕ_discrete}
use native.Mathlib.Omega.{arith}
use lib.ListN.{length, drop}
use borrow.Author.Tests.{lt-ltb, le-ltb, eq-eqb, ne_eqb, eqb-true}
use Rattle.file.specs.Check.{file_number, refusal_of}
use Rattle.fields.specs.File.{sizes_of, step_count}
use Rattle.file.proofs.Number.{refusal-number}
use Rattle.grid.specs.Grid.{grid_size}
use Rattle.sizes.specs.Sizes.{refused_by, accepted, accepts}
use Rattle.sizes.specs.declared.Refusal.{Refusal}
use Rattle.slices.specs.Slices.{cleared}
use Rattle.file_tables.specs.FileTables.{table_refusal, table_of_file, made_table, table_scratch}

module _ (s : List ℕ) (room len : ℕ) where
  pub table-file : ¬ (file_number s ≡ 0) → table_refusal s room len ≡ refusal_of 1 s
  unfolding table_refusal
  table-file n = rw (ne_eqb (file_number s) 0 n)

  module _ (e : file_number s ≡ 0) where
    pub table_12 : room < step_count s → table_refusal s room len ≡ refused_by 12
    unfolding table_refusal
    table_12 l = rw (eq-eqb (file_number s) 0 e, lt-ltb room (step_count s) l)

    module _ (h : step_count s ≤ room) where
      pub table_13 : len < grid_size (sizes_of s) → table_refusal s room len ≡ refused_by 13
      unfolding table_refusal
      table_13 l = rw (eq-eqb (file_number s) 0 e, le-ltb room (step_count s) h, lt-ltb len (grid_size (sizes_of s)) l)

      pub table_0 : grid_size (sizes_of s) ≤ len → table_refusal s room len ≡ accepted
      unfolding table_refusal
      table_0 l = rw (eq-eqb (file_number s) 0 e, le-ltb room (step_count s) h, le-ltb len (grid_size (sizes_of s)) l)

  -- what holds of a file and slices of which a table is made
  pub record Made : Type 0 where
    pub sound : file_number s ≡ 0
    pub steps : step_count s ≤ room
    pub cells : grid_size (sizes_of s) ≤ len

  pub made : (table_refusal s room len).number ≡ 0 → Made
  made e =
      elim (ℕ_discrete (file_number s) 0) [
        | yes f ↦ passed_on f
        | no n ↦ absurd (n (sym (refusal-number s 1) ∙ sym (ap number (table-file n)) ∙ e))
      ]
    where
      number : Refusal → ℕ
      number r = r.number

      passed_on : file_number s ≡ 0 → Made
      passed_on f =
          elim (dec_lt room (step_count s)) [
            | yes l ↦ absurd (omega (arith, e, ap number (table_12 f l)))
            | no g ↦ elim (dec_lt len (grid_size (sizes_of s))) [
              | yes l ↦ absurd (omega (arith, e, ap number (table_13 f (omega arith) l)))
              | no h ↦ record { sound = f; steps = omega arith; cells = omega arith }
            ]
          ]

  -- an accepted call shows nothing
  pub table-accepts : accepts (table_refusal s room len) ≡ true → table_refusal s room len ≡ accepted
  table-accepts e = let m = made (eqb-true _ 0 e) in table_0 m.sound m.steps m.cells

module _ (s scratch table : List ℕ) where
  pub made-refused :
      ((table_refusal s (length scratch) (length table)).number ≡ 0 → ⊥) →
      (table ≡ made_table s (length scratch) table) × (scratch ≡ table_scratch s scratch (length table))
  unfolding made_table table_scratch
  made-refused n = (rw (ne_eqb _ 0 n), rw (ne_eqb _ 0 n))

  pub scratch-accepted :
      (table_refusal s (length scratch) (length table)).number ≡ 0 →
      table_scratch s scratch (length table) ≡ cleared (step_count s) scratch
  unfolding table_scratch
  scratch-accepted e = rw (eq-eqb _ 0 e)

pub table-accepted :
    (s : List ℕ) (room : ℕ) (table : List ℕ) → (table_refusal s room (length table)).number ≡ 0 →
    made_table s room table ≡ table_of_file s ++ drop (grid_size (sizes_of s)) table
unfolding made_table
table-accepted s room table e = rw (eq-eqb _ 0 e)
