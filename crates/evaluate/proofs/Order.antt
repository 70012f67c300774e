-- Evaluating gives the number of the first condition that holds, by the cases of its answers. Assumes nothing.
use mathlib.Core.Bool.{not-eq-not}
use Rattle.file.proofs.Accepted.{accepted}
use Rattle.file.proofs.Sound.{number_0}
use Rattle.evaluate.specs.Order.{EvaluateInOrder}
use Rattle.evaluate.proofs.Answers.{at-file, at_12, at_14}
use Rattle.evaluate.proofs.Taken.{vector-full}

pub evaluate_in_order : EvaluateInOrder
evaluate_in_order s x len =
    record {
      file = λ n. at-file s x len (λ e. n (accepted s e));
      room = λ a l. at_12 s x len (number_0 s a) l;
      vector = λ a l n. at_14 s x len (number_0 s a) l (not-eq-not.0 (λ b. n (vector-full _ x b)));
    }
