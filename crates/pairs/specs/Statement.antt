-- The pairs marked * in document 01, as one fact. It is proved in proofs/Rows, by computing.
--   a ^ℤ n         the n-th power of the integer a
--   Sized s m ns   the file s has output word length m and an input for each entry of ns, which is its width byte: an unsigned
--                  input's word length; the other width bytes are 0
--   Computes s f   at every vector v, the exact value of the file's last step is f v
--   input v i      the integer that input i of the vector v holds, counted from 0
--   Row p m ns f₁ f₂ bs ans
--                  both files of the pair p have the sizes m and ns, they compute f₁ and f₂, the budgets are bs and the
--                  answers ans, and the pair holds: calls with these files and budgets give these answers
--   OneInput p m n f₁ f₂ bs ans
--                  the row of a pair of files with one input x: f₁ and f₂ are functions of x
--   TwoInputs p m n₁ n₂ f₁ f₂ bs ans
--                  the row of a pair of files with two inputs x1 and x2: f₁ and f₂ are functions of x1 and x2
--   first_quadratic, second_quadratic, quartic, three_factors, four_factors
--                  functions that document 01 writes out, which the rows share
--   StarredPairs   the table has the starred pairs in document 01's order and no other, each holds, and each, by its
--                  name, is the row that document 01 gives
use Rattle.std.specs.Prelude.{List, [], ◌∷◌, ◌++◌, ◌≡◌, ℕ, zero, suc, ◌-◌, ◌<◌, ℤ, pos, ◌+ℤ◌, ◌-ℤ◌, ◌*ℤ◌, get_or, length, replicate}
use Rattle.fields.specs.File.{sizes_of}
use Rattle.fields.specs.Steps.{steps_of}
use Rattle.sessions.specs.declared.Answer.{Answer}
use Rattle.sizes.specs.Sizes.{max_inputs}
use Rattle.datapath.specs.Steps.{exact}
use Rattle.pairs.specs.Holds.{Holds}
use Rattle.pairs.specs.Pairs as table
use Rattle.pairs.specs.Pairs.{Pair, spent, equivalent, differs}

infixl 8 ◌^ℤ◌
abbrev pub ◌^ℤ◌ : ℤ → ℕ → ℤ
a ^ℤ zero = pos 1
a ^ℤ suc zero = a
a ^ℤ suc (suc n) = a ^ℤ suc n *ℤ a

abbrev pub Sized : List ℕ → ℕ → List ℕ → Type 0
Sized s m ns = sizes_of s ≡ record { m = m; d = length ns; widths = ns ++ replicate (max_inputs - length ns) 0 }

abbrev pub Computes : List ℕ → (List ℤ → ℤ) → Type 0
Computes s f = (v : List ℤ) → exact (steps_of s) v ≡ f v

pub record Row (p : Pair) (m : ℕ) (ns : List ℕ) (f₁ f₂ : List ℤ → ℤ) (bs : List ℕ) (ans : List Answer) : Type 0 where
  pub sizes : Sized p.file₁ m ns × Sized p.file₂ m ns
  pub values : Computes p.file₁ f₁ × Computes p.file₂ f₂
  pub calls : (p.budgets ≡ bs) × (p.answers ≡ ans)
  pub holds : Holds p

abbrev pub input : List ℤ → ℕ → ℤ
input v i = get_or v i (pos 0)

abbrev pub OneInput : Pair → ℕ → ℕ → (ℤ → ℤ) → (ℤ → ℤ) → List ℕ → List Answer → Type 0
OneInput p m n f₁ f₂ bs ans = Row p m (n ∷ []) (λ v. f₁ (input v 0)) (λ v. f₂ (input v 0)) bs ans

abbrev pub TwoInputs : Pair → ℕ → ℕ → ℕ → (ℤ → ℤ → ℤ) → (ℤ → ℤ → ℤ) → List ℕ → List Answer → Type 0
TwoInputs p m n₁ n₂ f₁ f₂ bs ans =
    Row p m (n₁ ∷ n₂ ∷ []) (λ v. f₁ (input v 0) (input v 1)) (λ v. f₂ (input v 0) (input v 1)) bs ans

-- 64x²+192x−169
abbrev pub first_quadratic : ℤ → ℤ
first_quadratic x = pos 64 *ℤ x ^ℤ 2 +ℤ pos 192 *ℤ x -ℤ pos 169

-- 192x²+64x+87
abbrev pub second_quadratic : ℤ → ℤ
second_quadratic x = pos 192 *ℤ x ^ℤ 2 +ℤ pos 64 *ℤ x +ℤ pos 87

-- x⁴+10x³+3x²+2x+8
abbrev pub quartic : ℤ → ℤ
quartic x = x ^ℤ 4 +ℤ pos 10 *ℤ x ^ℤ 3 +ℤ pos 3 *ℤ x ^ℤ 2 +ℤ pos 2 *ℤ x +ℤ pos 8

-- x(x−1)(x−2)
abbrev pub three_factors : ℤ → ℤ
three_factors x = x *ℤ (x -ℤ pos 1) *ℤ (x -ℤ pos 2)

-- x(x−1)(x−2)(x−3)
abbrev pub four_factors : ℤ → ℤ
four_factors x = three_factors x *ℤ (x -ℤ pos 3)

pub record StarredPairs : Type 0 where
  pub rows :
      table.pairs ≡
      table.quadratics
      ∷ table.quadratics_in_two
      ∷ table.quintic
      ∷ table.other_quintic
      ∷ table.four_factors_of_2_bits
      ∷ table.four_factors_of_3_bits
      ∷ table.three_factors_of_8_bits
      ∷ table.four_factors_of_8_bits
      ∷ table.square_of_a_bit
      ∷ table.two-inputs
      ∷ table.product
      ∷ []
  pub count : length table.pairs ≡ 11
  pub each : (i : ℕ) → i < length table.pairs → Holds (table.pair_at i)
  -- m 8, n 8: 64x²+192x−169 and 192x²+64x+87: equivalent, 10 run
  pub quadratics : OneInput table.quadratics 8 8 first_quadratic second_quadratic (10 ∷ []) (equivalent 10 ∷ [])
  -- Budget 9: spent; then budget 1: equivalent
  pub quadratics_in_two :
      OneInput table.quadratics_in_two 8 8 first_quadratic second_quadratic (9 ∷ 1 ∷ []) (spent 9 ∷ equivalent 1 ∷ [])
  -- m 4, n 4: 2x⁵+13x⁴+15x²+2x+8 and x⁴+10x³+3x²+2x+8: equivalent, 6 run
  pub quintic :
      OneInput table.quintic 4 4
      (λ x. pos 2 *ℤ x ^ℤ 5 +ℤ pos 13 *ℤ x ^ℤ 4 +ℤ pos 15 *ℤ x ^ℤ 2 +ℤ pos 2 *ℤ x +ℤ pos 8) quartic
      (6 ∷ []) (equivalent 6 ∷ [])
  -- m 4, n 4: x⁵+15x⁴+5x³+x²+2x+8 and the second one above: differs at 1, outputs 0 and 8, 2 run
  pub other_quintic :
      OneInput table.other_quintic 4 4
      (λ x. x ^ℤ 5 +ℤ pos 15 *ℤ x ^ℤ 4 +ℤ pos 5 *ℤ x ^ℤ 3 +ℤ x ^ℤ 2 +ℤ pos 2 *ℤ x +ℤ pos 8) quartic
      (2 ∷ []) (differs (1 ∷ []) 0 8 2 ∷ [])
  -- m 4: x(x−1)(x−2)(x−3): n 2, equivalent after 4; n 3, differs at 4, outputs 8 and 0, 5 run
  pub four_factors_of_2_bits :
      OneInput table.four_factors_of_2_bits 4 2 four_factors (λ x. pos 0) (4 ∷ []) (equivalent 4 ∷ [])
  pub four_factors_of_3_bits :
      OneInput table.four_factors_of_3_bits 4 3 four_factors (λ x. pos 0) (5 ∷ []) (differs (4 ∷ []) 8 0 5 ∷ [])
  -- m 3, n 8: x(x−1)(x−2) differs at 3, outputs 6 and 0, 4 run; times (x−3), equivalent after 4
  pub three_factors_of_8_bits :
      OneInput table.three_factors_of_8_bits 3 8 three_factors (λ x. pos 0) (4 ∷ []) (differs (3 ∷ []) 6 0 4 ∷ [])
  pub four_factors_of_8_bits :
      OneInput table.four_factors_of_8_bits 3 8 four_factors (λ x. pos 0) (4 ∷ []) (equivalent 4 ∷ [])
  -- m 1, n 1: x and x²: equivalent, 2 run
  pub square_of_a_bit : OneInput table.square_of_a_bit 1 1 (λ x. x) (λ x. x ^ℤ 2) (2 ∷ []) (equivalent 2 ∷ [])
  -- m 2, n 2 and 2: x1(x1−1)x2(x2−1): equivalent, 16 run
  pub two-inputs :
      TwoInputs table.two-inputs 2 2 2
      (λ x1 x2. x1 *ℤ (x1 -ℤ pos 1) *ℤ x2 *ℤ (x2 -ℤ pos 1)) (λ x1 x2. pos 0)
      (16 ∷ []) (equivalent 16 ∷ [])
  -- m 2, n 1 and 2: x1·x2: differs at (1, 1), outputs 1 and 0, 6 run
  pub product :
      TwoInputs table.product 2 1 2 (λ x1 x2. x1 *ℤ x2) (λ x1 x2. pos 0) (6 ∷ []) (differs (1 ∷ 1 ∷ []) 1 0 6 ∷ [])
