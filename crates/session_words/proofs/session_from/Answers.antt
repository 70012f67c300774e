-- `session_words::session_from` meets its contract: field by field.
-- Assumes nothing.
use native.Mathlib.Omega.{arith}
use Rattle.layouts.specs.Lengths.{word_at, at_position}
use Rattle.layouts.specs.SessionWords.{session_from}
use Rattle.layouts.proofs.Told.{session-told}
use Rattle.session_words.proofs.session_from.Goals as goal

pub sizes_from-requires : goal.sizes_from-requires
sizes_from-requires c = (session-told _ c.requires).bytes

pub bounds-words-12 : goal.bounds-words-12
bounds-words-12 c = omega (arith, (session-told _ c.requires).long)

pub bounds-words-13 : goal.bounds-words-13
bounds-words-13 c = omega (arith, (session-told _ c.requires).long)

pub returns : goal.returns
unfolding session_from
returns c =
    let w = c.args.words.now in
    λ i. record { sizes = c.sizes_from.ensures i; position = word_at w at_position; mark = c.mark_from.ensures i }
