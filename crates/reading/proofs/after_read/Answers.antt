-- `reading::after_read` meets its contract: each test on what the read answered is one of the definition's cases. That it is 0 is tested on its
-- bits, of which the machine reads the answer back.
use mathlib.Core.Path.{◌≡◌, sym, ◌∙◌, ap}
use Prim.Native.Nat.{◌+◌}
use lib.ListN.{length}
use mir.Facts.{to_z-of_z}
use mir.Syntax.{w64}
use mir.Val.{to_z, of_z}
use Rattle.io.specs.Counts.{clamp_len}
use Rattle.reading.specs.Reading.{failed_read}
use Rattle.reading.specs.declared.AfterRead.TheVariants.{More}
use Rattle.reading.proofs.Readings.{failed_ends, nothing_ends, other_goes_on}
use Rattle.reading.proofs.after_read.Goals.{Start}
use Rattle.reading.proofs.after_read.Goals as goal

-- the answer as the machine reads it back
back : (s : Start) → to_z w64 (of_z w64 s.args.got) ≡ s.args.got
back s = to_z-of_z s.ranges.got

pub returns-then-failed : goal.returns-then-failed
returns-then-failed c = sym (failed_ends _ _ c.args.got (ap failed_read (sym (back (goal.at.returns-then-failed c).Start)) ∙ sym c.failed.ensures ∙ c.if-failed.true))

pub returns-then-got-eq0 : goal.returns-then-got-eq0
returns-then-got-eq0 c = sym (nothing_ends _ _ c.args.got (sym (back (goal.at.returns-then-got-eq0 c).Start) ∙ ap (to_z w64) c.if-got-eq0.true))

pub returns : goal.returns
returns c =
    let room = length c.args.rest.now in
    ap (λ n. More (c.args.done + n)) (c.count-more.ensures.value ∙ ap (λ z. clamp_len z room) (back (goal.at.returns c).Start))
    ∙ sym
    (other_goes_on _ room c.args.got
    (ap failed_read (sym (back (goal.at.returns c).Start)) ∙ sym c.failed.ensures ∙ c.if-failed.false)
    (λ e. c.if-got-eq0.false (ap (of_z w64) e)))
