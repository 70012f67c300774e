-- A file that keeps all of document 01's rules has the number 0: each test of the head passes, and no step is faulty. Assumes nothing.
use mathlib.Core.List.{List}
use mathlib.Core.Path.{◌≡◌, sym, ◌∙◌, ap}
use Prim.Native.Nat.{ℕ, ◌+◌, ◌<◌}
use native.Mathlib.Omega.{arith}
use Rattle.fields.specs.File.{sizes_of, step_count}
use Rattle.ranges.proofs.Search.{first_absent}
use Rattle.sizes.specs.Sizes.{Ruled, Sound}
use Rattle.sizes.specs.declared.Refusal.{Refusal}
use Rattle.sizes.proofs.Ruled.{ruled-sound}
use Rattle.file.specs.Accepted.{Accepted, AcceptedExactly}
use Rattle.file.specs.Check.{faulty_at, faulty_step, head_fault, file_number}
use Rattle.file.proofs.Accepted.{accepted}
use Rattle.file.proofs.Number.{refused-sound, refusal-number}
use Rattle.file.proofs.Order.{head-ruled}
use Rattle.file.proofs.Steps.{step-passes}

module _ (s : List ℕ) (a : Accepted s) where
  -- its sizes keep their rules
  pub file-ruled : Ruled (sizes_of s)
  file-ruled =
      record {
        output_low = a.output_low;
        output_high = a.output_high;
        inputs_low = a.inputs_low;
        inputs_high = a.inputs_high;
        width_low = a.width_low;
        width_high = a.width_high;
        width_unused = a.width_unused;
      }

  pub file-sound : Sound (sizes_of s)
  file-sound = ruled-sound (sizes_of s) file-ruled

  head-passes : head_fault s ≡ 0
  head-passes = head-ruled s (record { long = a.long; sizes = file-ruled; count = (a.count_low, a.count_high); size = a.size })

  none-faulty : faulty_step s ≡ 0 + step_count s
  unfolding faulty_step
  none-faulty = first_absent (faulty_at s) 0 (step_count s) (λ k _ h. let l : k < step_count s = omega arith in step-passes s k (a.operations k l) (a.arguments k l))

  pub number_0 : file_number s ≡ 0
  number_0 =
      sym (refusal-number s 1)
      ∙ ap (λ (r : Refusal). r.number) (sym (refused-sound s head-passes 1 (omega (arith, none-faulty))))

pub accepted_exactly : AcceptedExactly
accepted_exactly s = (accepted s, number_0 s)
