-- `lanes::run_listed` meets its contract: a step that is not listed has the same value at both vectors.
-- Assumes nothing.
use Rattle.std.proofs.Common.{◌^◌, ◌∙◌, ap, rules}
use Rattle.fields.specs.File.{sizes_of}
use Rattle.integers.specs.Modulo.{remainder}
use Rattle.lanes.proofs.run_listed.Goals as goal

pub returns : goal.returns
returns c =
    λ j l x y b rest beside reads held. c.run_steps.ensures.held l y b reads
    (λ i h out.
    held i h
    ∙ ap (λ z. remainder z (2 ^ (sizes_of c.args.file.now).m))
    (rest i h (λ p less e. let r = c.run_steps.ensures.chosen p less in out p r.0 less r.1 (search rules)) x y beside))
