-- `rounds::join` meets its contract: a word stands for an integer modulo 2^64. Assumes nothing.
use Rattle.std.proofs.Common.{◌≡◌, ℕ, ◌+◌, ◌-◌, ◌%◌, ◌^◌, ◌<◌, pos, negsuc, ◌+ℤ◌, ◌*ℤ◌, sym, ap, ◌∙◌, ap₂, not, true, false, nat_eq, mod-lt, arith, rules}
use Rattle.integers.proofs.Ring.{+ℤ-opposite, *ℤ-idl}
use Rattle.words.specs.Words.{word}
use Rattle.words.proofs.Congruence.{word_pos, word-add, word-sub}
use Rattle.rounds.proofs.join.Goals as goal

module _ (a b : ℕ) (ha : a < 2 ^ 64) (hb : b < 2 ^ 64) where
  subtracted : (a + (2 ^ 64 - b)) % 2 ^ 64 ≡ word (pos a +ℤ negsuc 0 *ℤ pos b)
  subtracted =
      word-sub _ (pos a) (pos b) (mod-lt _ (omega arith)) (ap (λ (y : ℕ). ((a + (2 ^ 64 - b)) % 2 ^ 64 + y) % 2 ^ 64) (word_pos b hb) ∙ back ∙ sym (word_pos a ha))
      ∙ ap word (sym (+ℤ-opposite (pos a) (pos b)))
    where
      back : ((a + (2 ^ 64 - b)) % 2 ^ 64 + b) % 2 ^ 64 ≡ a
      back = omega arith

  added : (a + b) % 2 ^ 64 ≡ word (pos a +ℤ pos 1 *ℤ pos b)
  added =
      ap₂ (λ (x y : ℕ). (x + y) % 2 ^ 64) (sym (word_pos a ha)) (sym (word_pos b hb))
      ∙ word-add (pos a) (pos b)
      ∙ ap (λ z. word (pos a +ℤ z)) (sym (*ℤ-idl (pos b)))

pub returns-then-this-ne0 : goal.returns-then-this-ne0
returns-then-this-ne0 g c =
    let e : not (nat_eq g.row.SUM 0) ≡ true = search rules in
    rw e (added _ _ c.ranges.here.fits c.ranges.below.fits)

pub returns-else-this-ne0 : goal.returns-else-this-ne0
returns-else-this-ne0 g c =
    let e : not (nat_eq g.row.SUM 0) ≡ false = search rules in
    rw e (subtracted _ _ c.ranges.here.fits c.ranges.below.fits)
