-- Worked examples of a file's fields: the bytes of a short and of a long head, each where document 01 has it, and an argument of two operands.
use mathlib.Core.List.{List, [], ◌∷◌, ◌++◌}
use mathlib.Core.Path.{◌≡◌, refl}
use Prim.Native.Nat.{ℕ}
use Rattle.datapath.specs.declared.Step.TheVariants.{Subtract}
use Rattle.words.specs.Bytes.{little}
use Rattle.fields.specs.File.{width_bytes, sizes_of, step_count, operation, argument}
use Rattle.fields.specs.Steps.{decoded, step_at}

-- m 16, d 8, N 257, word lengths 1 to 8
head : List ℕ
head = 0x10 ∷ 0x08 ∷ 0x01 ∷ 0x01 ∷ 0x01 ∷ 0x02 ∷ 0x03 ∷ 0x04 ∷ 0x05 ∷ 0x06 ∷ 0x07 ∷ 0x08 ∷ []

head-sizes : sizes_of head ≡ record { m = 16; d = 8; widths = 1 ∷ 2 ∷ 3 ∷ 4 ∷ 5 ∷ 6 ∷ 7 ∷ 8 ∷ 0 ∷ 0 ∷ [] }
unfolding sizes_of width_bytes head
head-sizes = refl

head-count : step_count head ≡ 257
unfolding step_count little head
head-count = refl

-- one step, which subtracts step 515 from step 258
one_step : List ℕ
one_step =
    (0x10 ∷ 0x01 ∷ 0x01 ∷ 0x00 ∷ 0x08 ∷ 0x00 ∷ 0x00 ∷ 0x00 ∷ 0x00 ∷ 0x00 ∷ 0x00 ∷ 0x00 ∷ [])
    ++ (0x04 ∷ 0x02 ∷ 0x01 ∷ 0x03 ∷ 0x02 ∷ 0x00 ∷ 0x00 ∷ 0x00 ∷ 0x00 ∷ [])

step_subtracts : step_at one_step 0 ≡ Subtract 258 515
unfolding step_at decoded operation argument width_bytes sizes_of step_count little one_step
step_subtracts = refl

-- m 16, d 10, N 1, word lengths 11 to 20, and the same step
long-step : List ℕ
long-step =
    (0x10 ∷ 0x0a ∷ 0x01 ∷ 0x00 ∷ 0x0b ∷ 0x0c ∷ 0x0d ∷ 0x0e ∷ 0x0f ∷ 0x10 ∷ 0x11 ∷ 0x12 ∷ 0x13 ∷ 0x14 ∷ [])
    ++ (0x04 ∷ 0x02 ∷ 0x01 ∷ 0x03 ∷ 0x02 ∷ 0x00 ∷ 0x00 ∷ 0x00 ∷ 0x00 ∷ [])

long-sizes : sizes_of long-step ≡ record { m = 16; d = 10; widths = 11 ∷ 12 ∷ 13 ∷ 14 ∷ 15 ∷ 16 ∷ 17 ∷ 18 ∷ 19 ∷ 20 ∷ [] }
unfolding sizes_of width_bytes long-step
long-sizes = refl

long-step_subtracts : step_at long-step 0 ≡ Subtract 258 515
unfolding step_at decoded operation argument width_bytes sizes_of step_count little long-step
long-step_subtracts = refl
