-- A file is refused by the first condition that holds: each test before it passes, and its own does not. Assumes nothing.
use mathlib.Core.Bool.{true, not-eq-not}
use mathlib.Core.List.{List}
use mathlib.Core.Path.{◌≡◌, sym}
use Prim.Native.Nat.{ℕ, suc}
use native.Mathlib.Omega.{arith}
use Rattle.ranges.proofs.Search.{first_unique}
use Rattle.sizes.specs.Sizes.{within}
use Rattle.sizes.proofs.Ranges.{within-range, output-range, inputs-range}
use Rattle.sizes.proofs.Ruled.{range-within, output-within, inputs-within, ruled, output-passes, inputs_pass, widths_pass}
use Rattle.fields.specs.File.{step_count}
use Rattle.file.specs.Check.{max_steps, step_fault, faulty_at, faulty_step, head_fault, refusal_of}
use Rattle.file.specs.Order.{CountRuled, HeadRuled, UpTo, shown, FileInOrder}
use Rattle.file.proofs.Cases.{head_0, head_1, head_2, head_3, own-head_1, head_4, head_5, head_6, step_7, step_8, faulty}
use Rattle.file.proofs.Number.{refused-head, refused-faulty}
use Rattle.file.proofs.Steps.{operation-kept, operation-passes, argument-kept, step-passes}

module _ (s : List ℕ) where
  count-passes : CountRuled s → within 1 max_steps (step_count s) ≡ true
  count-passes c = range-within 1 max_steps (step_count s) c.0 c.1

  pub head-ruled : HeadRuled s → head_fault s ≡ 0
  head-ruled h =
      let z = h.sizes in
      sym (head_0 s h.long (output-passes _ z) (inputs_pass _ z) (count-passes h.count) (widths_pass _ z) h.size)

  module _ (w k x : ℕ) (u : UpTo s k) (e : suc x ≡ step_fault s k) where
    first_fault : k ≡ faulty_step s
    unfolding faulty_step
    first_fault =
        sym
        (first_unique (faulty_at s) 0 (step_count s) k (omega arith) (omega (arith, u.inside)) (faulty s k (λ z. omega arith))
        (λ j _ l. step-passes s j (u.before j l).0 (u.before j l).1))

    step-refused : refusal_of w s ≡ shown (suc x) w k
    step-refused = sym (refused-faulty s (head-ruled u.head) w first_fault e u.inside)

pub file_in_order : FileInOrder
file_in_order w s =
    record {
      short = λ l. sym (refused-head s w (head_1 s l) (λ e. omega arith));
      output = λ l n. sym (refused-head s w (head_2 s l (not-eq-not.0 (λ o. n (output-range _ o)))) (λ e. omega arith));
      inputs = λ l o n.
          sym (refused-head s w (head_3 s l (output-within _ o) (not-eq-not.0 (λ i. n (inputs-range _ i)))) (λ e. omega arith));
      head = λ l o i h. sym (refused-head s w (own-head_1 s l (output-within _ o) (inputs-within _ i) h) (λ e. omega arith));
      count = λ l o i n.
          sym
          (refused-head s w
          (head_4 s l (output-within _ o) (inputs-within _ i) (not-eq-not.0 (λ c. n (within-range 1 max_steps (step_count s) c))))
          (λ e. omega arith));
      widths = λ l o i c n.
          sym
          (refused-head s w
          (head_5 s l (output-within _ o) (inputs-within _ i) (count-passes s c)
          (not-eq-not.0 (λ b. n (ruled _ (output-within _ o) (inputs-within _ i) b))))
          (λ e. omega arith));
      size = λ l z c n.
          sym
          (refused-head s w (head_6 s l (output-passes _ z) (inputs_pass _ z) (count-passes s c) (widths_pass _ z) n) (λ e. omega arith));
      operation = λ k u n. step-refused s w k 6 u (step_7 s k (not-eq-not.0 (λ o. n (operation-kept s k o))));
      argument = λ k u o n.
          step-refused s w k 7 u (step_8 s k (operation-passes s k o) (not-eq-not.0 (λ a. n (argument-kept s k a))));
    }
