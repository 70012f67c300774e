-- `walk::differ_at` meets its contract: the two outputs are compared, and each evaluation leaves the entries past its own count.
-- Assumes nothing.
use mathlib.Core.Path.{◌∙◌, ap₂}
use mathlib.Core.Bool.{not}
use native.Mathlib.Nat.{le-max_left, le-max_right}
use lib.Dec.{eqb}
use Rattle.lists.proofs.Lists.{drop-later}
use Rattle.walk.proofs.differ_at.Goals as goal

pub returns : goal.returns
returns c =
    let a = c.args in
    record {
      differ = ap₂ (λ x y. not (eqb x y)) c.output_at-output1.ensures.output c.output_at-output2.ensures.output;
      kept =
          drop-later _ _ a.n2 _ (le-max_right a.n1 a.n2) c.output_at-output2.ensures.kept
          ∙ drop-later _ _ a.n1 _ (le-max_left a.n1 a.n2) c.output_at-output1.ensures.kept;
    }
