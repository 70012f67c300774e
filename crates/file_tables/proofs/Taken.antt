-- Making a table answers the number 0 exactly where the file and the slices keep their rules. Assumes nothing.
use mathlib.Core.List.{List}
use mathlib.Core.Path.{◌≡◌, ap}
use Prim.Native.Nat.{ℕ}
use Rattle.file.proofs.Accepted.{accepted}
use Rattle.file.proofs.Sound.{number_0}
use Rattle.sizes.specs.declared.Refusal.{Refusal}
use Rattle.file_tables.specs.FileTables.{table_refusal}
use Rattle.file_tables.specs.Taken.{TableTaken, TableExactly}
use Rattle.file_tables.proofs.Answers.{table_0, made}

module _ (s : List ℕ) (room len : ℕ) where
  taken : (table_refusal s room len).number ≡ 0 → TableTaken s room len
  taken e = let m = made s room len e in record { file = accepted s m.sound; steps = m.steps; cells = m.cells }

  zero : TableTaken s room len → (table_refusal s room len).number ≡ 0
  zero t = ap (λ (r : Refusal). r.number) (table_0 s room len (number_0 s t.file) t.steps t.cells)

pub table_exactly : TableExactly
table_exactly s room len = (taken s room len, zero s room len)
