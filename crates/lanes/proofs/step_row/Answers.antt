-- `lanes::step_row` meets its contract, by what the step is: an accepted file keeps an input's index below d and the operands of the others before
-- step k, where the rows hold their values.
-- Assumes nothing.
use mathlib.Core.List.{List}
use mathlib.Core.Path.{◌≡◌, refl, sym, ◌∙◌, ap, subst}
use Prim.Native.Nat.{ℕ, ◌%◌, ◌^◌, ◌<◌}
use native.Mathlib.Omega.{arith}
use lib.IntN.{ℤ, pos, ◌*ℤ◌}
use Rattle.dependence.specs.Dependence.{value_at}
use Rattle.dependence.proofs.Values.{value-input, value-constant, value-sum, value-difference, value-product}
use Rattle.fields.specs.File.{sizes_of}
use Rattle.file.proofs.Accepted.{Is, is}
use Rattle.integers.specs.Modulo.{remainder}
use Rattle.integers.proofs.Remainder.{remainder_pos}
use Rattle.rows.specs.Rows.{lane, HasRow, Operands}
use Rattle.rows.proofs.Writing.{before-row}
use Rattle.datapath.specs.declared.Step.{Step}
use Rattle.lanes.specs.Lanes.{StandsFor, Held}
use Rattle.lanes.proofs.Residues.{residue_sum, residue_difference}
use Rattle.lanes.proofs.Stepped.{width-most}
use Rattle.lanes.proofs.step_row.Goals.{After-step_at}
use Rattle.lanes.proofs.step_row.Goals as goal

-- what lane l of row k holds: a number that is the value, or a word that stands for it
module _ (w : ℕ) (s x rows : List ℕ) (l k : ℕ) where
  held-pos : (v : ℕ) → lane w rows k l ≡ v → value_at s x k ≡ pos v → Held w s x rows l k
  held-pos v e q = ap (λ z. z % 2 ^ (sizes_of s).m) e ∙ sym (remainder_pos v (2 ^ (sizes_of s).m)) ∙ ap (λ z. remainder z (2 ^ (sizes_of s).m)) (sym q)

  held_word : (u : ℤ) → value_at s x k ≡ u → (v : ℕ) → lane w rows k l ≡ v → StandsFor (sizes_of s).m v u → Held w s x rows l k
  held_word u q v e h = ap (λ z. z % 2 ^ (sizes_of s).m) e ∙ h ∙ ap (λ z. remainder z (2 ^ (sizes_of s).m)) (sym q)

  -- a product of rows that hold theirs, for a number m that is the file's
  held-product :
      (before : List ℕ) (a b m : ℕ) → m ≡ (sizes_of s).m →
      ((u v : ℤ) → StandsFor m (lane w before a l) u → StandsFor m (lane w before b l) v → StandsFor m (lane w rows k l) (u *ℤ v)) →
      value_at s x k ≡ value_at s x a *ℤ value_at s x b → Held w s x before l a → Held w s x before l b → Held w s x rows l k
  held-product before a b m e written q left right =
      held_word _ q _ refl
      (subst (λ n. (u v : ℤ) → StandsFor n (lane w before a l) u → StandsFor n (lane w before b l) v → StandsFor n (lane w rows k l) (u *ℤ v)) e written
      (value_at s x a) (value_at s x b) left right)

-- step k is what is read of it
read : (b : After-step_at) (u : Step) → b.step_at.result ≡ u → Is b.args.file.now b.args.k u
read b u q = is _ _ _ (record { sound = b.requires.room.sound; count = b.requires.room.count }) b.requires.k_lt_n _ u b.step_at.ensures q

-- row k lies within the rows
own_row : (b : After-step_at) → HasRow b.args.w b.args.rows.now b.args.k
own_row b = omega (arith, b.requires.room.step_rows, before-row b.args.w b.args.k b.args.n b.requires.k_lt_n)

-- what a call on rows l and r asks, where both are before row k
operands : (b : After-step_at) (l r : ℕ) → (l < b.args.k) × (r < b.args.k) → Operands b.args.w b.args.rows.now b.args.k l r
operands b l r h = record { left = h.0; right = h.1; lanes = width-most b.requires.room.width; room = own_row b }

pub copy_row-requires : goal.copy_row-requires
copy_row-requires c =
    let i = read (goal.at.copy_row-requires c).After-step_at _ c.in-Input.is in
    record { w_le_max_lanes = (width-most c.requires.room.width, omega (arith, c.requires.room.input_rows, before-row c.args.w _ _ i.rule)); has_row = own_row (goal.at.copy_row-requires c).After-step_at }

pub fill_row-requires : goal.fill_row-requires
fill_row-requires c = own_row (goal.at.fill_row-requires c).After-step_at

pub add_rows-requires : goal.add_rows-requires
add_rows-requires c = operands (goal.at.add_rows-requires c).After-step_at _ _ (read (goal.at.add_rows-requires c).After-step_at _ c.in-Add.is).rule

pub subtract_rows-requires : goal.subtract_rows-requires
subtract_rows-requires c = operands (goal.at.subtract_rows-requires c).After-step_at _ _ (read (goal.at.subtract_rows-requires c).After-step_at _ c.in-Subtract.is).rule

pub product_row-requires : goal.product_row-requires
product_row-requires c =
    let i = read (goal.at.product_row-requires c).After-step_at _ c.in-Multiply.is in
    record { m_bound = omega (arith, c.output_length.ensures, c.requires.room.sound.output_high); operands = operands (goal.at.product_row-requires c).After-step_at _ _ i.rule }

pub returns-in-Input : goal.returns-in-Input
returns-in-Input c =
    let i = read (goal.at.returns-in-Input c).After-step_at _ c.in-Input.is in
    record {
      row = λ l x h reads held. held-pos c.args.w _ x c.copy_row.new.rows l _ _ (c.copy_row.ensures.row l h ∙ reads _ i.rule) (value-input _ x _ i.inside _ i.step);
      others = c.copy_row.ensures.others;
    }

pub returns-in-Constant : goal.returns-in-Constant
returns-in-Constant c =
    let i = read (goal.at.returns-in-Constant c).After-step_at _ c.in-Constant.is in
    record {
      row = λ l x h reads held. held-pos c.args.w _ x c.fill_row.new.rows l _ _ (c.fill_row.ensures.row l h) (value-constant _ x _ i.inside _ i.step);
      others = c.fill_row.ensures.others;
    }

pub returns-in-Add : goal.returns-in-Add
returns-in-Add c =
    let i = read (goal.at.returns-in-Add c).After-step_at _ c.in-Add.is in
    record {
      row =
          λ l x h reads held. held_word c.args.w _ x c.add_rows.new.rows l _ _ (value-sum _ x _ i.inside _ _ i.rule.0 i.rule.1 i.step) _ (c.add_rows.ensures.row l h)
          (residue_sum _ _ _ _ _ (held _ i.rule.0) (held _ i.rule.1) c.requires.room.sound.output_high);
      others = c.add_rows.ensures.others;
    }

pub returns-in-Subtract : goal.returns-in-Subtract
returns-in-Subtract c =
    let i = read (goal.at.returns-in-Subtract c).After-step_at _ c.in-Subtract.is in
    record {
      row =
          λ l x h reads held. held_word c.args.w _ x c.subtract_rows.new.rows l _ _ (value-difference _ x _ i.inside _ _ i.rule.0 i.rule.1 i.step) _ (c.subtract_rows.ensures.row l h)
          (residue_difference _ _ _ _ _ (held _ i.rule.0) (held _ i.rule.1) c.requires.room.sound.output_high);
      others = c.subtract_rows.ensures.others;
    }

pub returns-in-Multiply : goal.returns-in-Multiply
returns-in-Multiply c =
    let i = read (goal.at.returns-in-Multiply c).After-step_at _ c.in-Multiply.is in
    record {
      row =
          λ l x h reads held. held-product c.args.w _ x c.product_row.new.rows l _ c.args.rows.now _ _ _ c.output_length.ensures (λ u v. c.product_row.ensures.row l u v h)
          (value-product _ x _ i.inside _ _ i.rule.0 i.rule.1 i.step) (held _ i.rule.0) (held _ i.rule.1);
      others = c.product_row.ensures.others;
    }
