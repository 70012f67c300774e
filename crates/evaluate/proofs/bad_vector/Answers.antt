-- `evaluate::bad_vector` meets its contract: the closure tests one word, and `all` asks it for each of the d. Assumes nothing.
use Rattle.std.proofs.Common.{refl, sym, ap, ◌∙◌, rules, eq-eqb, ne_eqb, arith}
use mathlib.Core.Bool.{not}
use Rattle.std.proofs.lemmas.Iterator.{YieldsList-from_range}
use Rattle.std.proofs.lemmas.Iterator.Search.{all_from_yields_List}
use Rattle.ranges.proofs.Every.{all_every}
use Rattle.evaluate.specs.Evaluate.{bad_vector, in_range}
use Rattle.evaluate.proofs.bad_vector.Goals as goal

pub returns-then-vector-d : goal.returns-then-vector-d
unfolding bad_vector
returns-then-vector-d c = rw (c.from-d.ensures, ne_eqb _ _ (λ e. c.if-vector-d.true (e ∙ sym c.from-d.ensures)))

pub returns-else-vector-d : goal.returns-else-vector-d
unfolding bad_vector
returns-else-vector-d c =
    let f = in_range c.args.z c.args.vector.now in
    let d = c.from-d.ensures in
    rw (eq-eqb _ _ (c.if-vector-d.false ∙ d))
    (ap not
    (all_from_yields_List f _ _ c.all.result c.all.ensures.ran (YieldsList-from_range 0 c.from-d.result c.args.z.d refl (omega arith)) (λ x b q k. search rules)
    ∙ all_every f 0 c.args.z.d))
