-- The measure of `put_decimal` is the number, of which each call writes the tenth.
use Rattle.writing.proofs.+put_decimal.Given as goal

abbrev pub decreases-put_decimal : goal.decreases-put_decimal
decreases-put_decimal l = l.n
