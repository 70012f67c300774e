-- `writing::is_negative` meets its contract: an unsigned input has no negative value, and what is read back from the bits of an integer is that
-- integer. Assumes nothing.
use mathlib.Core.Path.{sym, ◌∙◌, ap}
use native.Mathlib.Omega.{arith}
use borrow.Author.Rules.{sfits_of}
use borrow.Author.Tests.{le-ltb}
use lib.IntN.{pos}
use lib.Signed.{lt_z}
use mir.Syntax.{w64}
use mir.ValLaws.{to_z-of_z}
use Rattle.input_words.proofs.InputWords.{value-signed, value-unsigned}
use Rattle.writing.proofs.is_negative.Goals as goal

pub returns-then-format : goal.returns-then-format
returns-then-format c =
    ap (λ v. lt_z v (pos 0))
    (to_z-of_z w64 c.signed_value.result (sfits_of c.signed_value.type_inv)
    ∙ c.signed_value.ensures
    ∙ sym (value-signed c.args.format c.args.w c.if-format.true))

pub returns-else-format : goal.returns-else-format
returns-else-format c =
    let natural = ap (λ v. lt_z v (pos 0)) (value-unsigned c.args.format c.args.w c.if-format.false) in
    c.if-format.false ∙ sym (natural ∙ le-ltb c.args.w 0 (omega arith))
