-- `evaluate::step_word` meets its contract: the word of a constant is the constant. Assumes nothing.
use mathlib.Core.Path.{sym, ◌∙◌}
use Rattle.evaluate.proofs.Operands.{constant_word, product_word}
use Rattle.evaluate.proofs.step_word.Goals as goal

pub returns-in-Constant : goal.returns-in-Constant
returns-in-Constant c = constant_word _ _ _ _ _ c.requires.running c.requires.k_lt_n _ c.in-Constant.ensures

pub returns-in-Multiply : goal.returns-in-Multiply
returns-in-Multiply c =
    product_word _ _ _ _ _ c.requires.running c.requires.k_lt_n _ _ _ (sym c.in-Multiply.is ∙ c.step_at.ensures) c.wrapping_mul.ensures
