-- Which number, file and step checking a file shows, and in which order it judges, as orders and equations, with no test in them. Which files
-- are accepted is in specs/Accepted.
--   CountRuled s      4 with no test in it: N is 1 to max_steps
--   HeadRuled s       1 to 6 with no test in them
--   UpTo s k          the head keeps its rules, and so does each step before step k
--   shown n w k       the refusal under the number n that shows file w and step k
--   FileOrder w s r   r is what s, as file w, is refused by:
--     short       it is shorter than a short head: by 1
--     output      else, m is not 1 to 64: by 2
--     inputs      else, d is not 1 to max_inputs: by 3
--     head        else, it is shorter than its own head: by 1
--     count       else, N is not 1 to max_steps: by 4
--     widths      else, a width byte breaks its rule: by 5
--     size        else, the length is not that of the head and 9N: by 6
--     operation   else, step k is the first that breaks a rule, and it is that of its operation byte: by 7, at step k
--     argument    else, step k is the first that breaks a rule, and it is that of its argument: by 8, at step k
--   FileInOrder       so a file is judged. Proved in proofs/Order
use Rattle.std.specs.Prelude.{List, ◌≡◌, ℕ, ◌+◌, ◌*◌, ◌≤◌, ◌<◌, length}
use Rattle.fields.specs.File.{short_head, sizes_of, head_of, step_count}
use Rattle.sizes.specs.Sizes.{OutputRuled, InputsRuled, Ruled}
use Rattle.sizes.specs.declared.Refusal.{Refusal}
use Rattle.file.specs.Accepted.{OperationRuled, ArgumentRuled}
use Rattle.file.specs.Check.{max_steps, refusal_of}

abbrev pub CountRuled : List ℕ → Type 0
CountRuled s = (1 ≤ step_count s) × (step_count s ≤ max_steps)

pub record HeadRuled (s : List ℕ) : Type 0 where
  pub long : head_of s ≤ length s
  pub sizes : Ruled (sizes_of s)
  pub count : CountRuled s
  pub size : length s ≡ head_of s + 9 * step_count s

pub record UpTo (s : List ℕ) (k : ℕ) : Type 0 where
  pub head : HeadRuled s
  pub inside : k < step_count s
  pub before : (j : ℕ) → j < k → OperationRuled s j × ArgumentRuled s j

abbrev pub shown : ℕ → ℕ → ℕ → Refusal
shown n w k = record { number = n; file = w; step = k }

pub record FileOrder (w : ℕ) (s : List ℕ) (r : Refusal) : Type 0 where
  pub short : length s < short_head → r ≡ shown 1 w 0
  pub output : short_head ≤ length s → ¬ OutputRuled (sizes_of s) → r ≡ shown 2 w 0
  pub inputs : short_head ≤ length s → OutputRuled (sizes_of s) → ¬ InputsRuled (sizes_of s) → r ≡ shown 3 w 0
  pub head :
      short_head ≤ length s → OutputRuled (sizes_of s) → InputsRuled (sizes_of s) →
      length s < head_of s → r ≡ shown 1 w 0
  pub count : head_of s ≤ length s → OutputRuled (sizes_of s) → InputsRuled (sizes_of s) → ¬ CountRuled s → r ≡ shown 4 w 0
  pub widths :
      head_of s ≤ length s → OutputRuled (sizes_of s) → InputsRuled (sizes_of s) → CountRuled s →
      ¬ Ruled (sizes_of s) → r ≡ shown 5 w 0
  pub size :
      head_of s ≤ length s → Ruled (sizes_of s) → CountRuled s →
      ¬ (length s ≡ head_of s + 9 * step_count s) → r ≡ shown 6 w 0
  pub operation : (k : ℕ) → UpTo s k → ¬ OperationRuled s k → r ≡ shown 7 w k
  pub argument : (k : ℕ) → UpTo s k → OperationRuled s k → ¬ ArgumentRuled s k → r ≡ shown 8 w k

abbrev pub FileInOrder : Type 0
FileInOrder = (w : ℕ) (s : List ℕ) → FileOrder w s (refusal_of w s)
