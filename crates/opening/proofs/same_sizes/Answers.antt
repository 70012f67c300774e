-- `opening::same_sizes` meets its contract: the closure tests one width byte, and `all` asks it at each place. Assumes nothing.
use lib.Dec.{eqb}
use lib.ListN.{get_or}
use mathlib.Core.Path.{refl, ◌∙◌}
use Prim.Native.Nat.{ℕ}
use borrow.Author.Rules.{rules}
use Rattle.std.proofs.lemmas.Iterator.{YieldsList-from_range}
use Rattle.std.proofs.lemmas.Iterator.Search.{all_from_yields_List}
use Rattle.sizes.specs.Sizes.{max_inputs}
use Rattle.ranges.proofs.Every.{all_every}
use Rattle.opening.proofs.Same.{same_widths}
use Rattle.opening.proofs.same_sizes.Goals as goal

pub returns-then-z-w-2 : goal.returns-then-z-w-2
returns-then-z-w-2 c =
    let f = λ (i : ℕ). eqb (get_or c.args.z.widths i 0) (get_or c.args.w.widths i 0) in
    all_from_yields_List f _ _ c.all.result c.all.ensures.ran (YieldsList-from_range 0 max_inputs max_inputs refl refl) (λ x b q k. search rules)
    ∙ all_every f 0 max_inputs
    ∙ same_widths c.args.z c.args.w c.if-z-w-2.true.0 c.if-z-w-2.true.1
