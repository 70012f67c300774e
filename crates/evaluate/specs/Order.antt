-- Which number evaluating gives, and in which order it judges, as orders and equations of numbers, with no test in them. Which calls are
-- accepted is in specs/Taken.
--   EvaluateOrder s ws len r   r is what the call is refused by:
--     file     the file is not accepted: by what it is refused by
--     room     else, the scratch slice has fewer entries than the file has steps: by 12
--     vector   else, there are not d words, or one gives no value of its input: by 14
--   EvaluateInOrder           so evaluating judges. Proved in proofs/Order
use Rattle.std.specs.Prelude.{◌≡◌, ℕ, ◌<◌, ◌≤◌, List}
use Rattle.fields.specs.File.{sizes_of, step_count}
use Rattle.file.specs.Accepted.{Accepted}
use Rattle.file.specs.Check.{refusal_of}
use Rattle.sizes.specs.Sizes.{refused_by}
use Rattle.sizes.specs.declared.Refusal.{Refusal}
use Rattle.evaluate.specs.Evaluate.{refusal_at}
use Rattle.evaluate.specs.Taken.{FullVector}

pub record EvaluateOrder (s ws : List ℕ) (len : ℕ) (r : Refusal) : Type 0 where
  pub file : ¬ Accepted s → r ≡ refusal_of 1 s
  pub room : Accepted s → len < step_count s → r ≡ refused_by 12
  pub vector : Accepted s → step_count s ≤ len → ¬ FullVector (sizes_of s) ws → r ≡ refused_by 14

abbrev pub EvaluateInOrder : Type 0
EvaluateInOrder = (s ws : List ℕ) (len : ℕ) → EvaluateOrder s ws len (refusal_at s ws len)
