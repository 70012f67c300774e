-- `sizes::bad_widths` meets its contract: the closure tests one width byte, and `all` asks it at each place. Assumes nothing.
use mathlib.Core.Bool.{not}
use mathlib.Core.Path.{refl, ap, ◌∙◌}
use borrow.Author.Rules.{rules}
use Rattle.std.proofs.lemmas.Iterator.{YieldsList-from_range}
use Rattle.std.proofs.lemmas.Iterator.Search.{all_from_yields_List}
use Rattle.sizes.specs.Sizes.{max_inputs, bad_widths, width_rule}
use Rattle.ranges.proofs.Every.{all_every}
use Rattle.sizes.proofs.bad_widths.Goals as goal

pub returns : goal.returns
unfolding bad_widths
returns c =
    ap not
    (all_from_yields_List (width_rule c.args.z) _ _ c.all.result c.all.ensures.ran (YieldsList-from_range 0 max_inputs max_inputs refl refl) (λ x b q k. search rules)
    ∙ all_every (width_rule c.args.z) 0 max_inputs)
