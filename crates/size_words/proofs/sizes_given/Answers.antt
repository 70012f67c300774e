-- `size_words::sizes_given` meets its contract: what the words give, where they are sizes.
-- Assumes nothing.
use mathlib.Core.Path.{sym, ◌∙◌}
use Rattle.layouts.proofs.Told.{sizes-told}
use Rattle.size_words.proofs.sizes_given.Goals as goal

pub sizes_from-requires : goal.sizes_from-requires
sizes_from-requires c = (sizes-told _ (sym c.sizes_fit.ensures ∙ c.if-sizes_fit.true)).bytes
