-- `size_words::put_sizes` meets its contract. The loop's invariant: m and d are written, and the first i word lengths.
-- Assumes nothing.
use borrow.Author.Rules.{rules}
use Rattle.size_words.proofs.Put.{more-put, all-put}
use Rattle.size_words.proofs.put_sizes.Goals as goal

pub loop-i-preserved : goal.loop-i-preserved
loop-i-preserved c = more-put _ _ _ _ c.loop-i.invariant c.loop-i-test.true (search rules)

pub returns : goal.returns
returns c = all-put c.args.z c.args.out.now _ _ c.requires c.loop-i.invariant c.loop-i-test.false
