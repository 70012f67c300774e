-- The pairs marked * in document 01, 'Pairs', each written as it stands there. Where document 01 names one side alone, the other is 0. The
-- budget of a row is the count of vectors run, but for the first pair's second row, which has document 01's two calls.
--   spent n, equivalent n   the answers *spent* and *equivalent* after n vectors
--   differs v o₁ o₂ n       the answer *differs* after n vectors, with the vector v and the outputs of the first and of the second file there
--   Pair                    two files, the budgets of continue calls with these files in this order, and the answers expected, in order
--   pairs                   the table: every row below
--   pair_at i                row i of the table, from 0
use Rattle.std.specs.Prelude.{List, [], ◌∷◌, ℕ, get_or}
use Rattle.printed.specs.Listings.{a·dp, b·dp}
use Rattle.sessions.specs.Session.{plain_answer}
use Rattle.sessions.specs.declared.Answer.{Answer}
use Rattle.sessions.specs.declared.Kind.TheVariants.{Spent, Equivalent, Differs}
use Rattle.sizes.specs.Sizes.{accepted}
use Rattle.sizes.specs.Padded.{padded}
use Rattle.pairs.specs.Written.{Expression, x, constant, ◌⊕◌, ◌⊖◌, ◌⊗◌, ◌↑◌, written}

abbrev pub spent : ℕ → Answer
spent n = plain_answer Spent n

abbrev pub equivalent : ℕ → Answer
equivalent n = plain_answer Equivalent n

abbrev pub differs : List ℕ → ℕ → ℕ → ℕ → Answer
differs v o₁ o₂ n =
    record { refusal = accepted; kind = Differs; run = n; vector = padded v; output1 = o₁; output2 = o₂ }

pub record Pair : Type 0 where
  pub file₁ : List ℕ
  pub file₂ : List ℕ
  pub budgets : List ℕ
  pub answers : List Answer

-- 64x²+192x−169 with m 8, n 8
unfoldable pub first_quadratic : List ℕ
first_quadratic = written 8 (8 ∷ []) (constant 64 ⊗ x 0 ↑ 2 ⊕ constant 192 ⊗ x 0 ⊖ constant 169)

-- 192x²+64x+87 with m 8, n 8
unfoldable pub second_quadratic : List ℕ
second_quadratic = written 8 (8 ∷ []) (constant 192 ⊗ x 0 ↑ 2 ⊕ constant 64 ⊗ x 0 ⊕ constant 87)

-- m 8, n 8: 64x²+192x−169 and 192x²+64x+87: equivalent, 10 run
unfoldable pub quadratics : Pair
quadratics =
    record { file₁ = first_quadratic; file₂ = second_quadratic; budgets = 10 ∷ []; answers = equivalent 10 ∷ [] }

-- Budget 9: spent; then budget 1: equivalent
unfoldable pub quadratics_in_two : Pair
quadratics_in_two =
    record {
      file₁ = first_quadratic;
      file₂ = second_quadratic;
      budgets = 9 ∷ 1 ∷ [];
      answers = spent 9 ∷ equivalent 1 ∷ [];
    }

-- x⁴+10x³+3x²+2x+8 with m 4, n 4
unfoldable pub quartic : List ℕ
quartic = written 4 (4 ∷ []) (x 0 ↑ 4 ⊕ constant 10 ⊗ x 0 ↑ 3 ⊕ constant 3 ⊗ x 0 ↑ 2 ⊕ constant 2 ⊗ x 0 ⊕ constant 8)

-- m 4, n 4: 2x⁵+13x⁴+15x²+2x+8 and x⁴+10x³+3x²+2x+8: equivalent, 6 run
unfoldable pub quintic : Pair
quintic =
    record {
      file₁ = written 4 (4 ∷ []) (constant 2 ⊗ x 0 ↑ 5 ⊕ constant 13 ⊗ x 0 ↑ 4 ⊕ constant 15 ⊗ x 0 ↑ 2 ⊕ constant 2 ⊗ x 0 ⊕ constant 8);
      file₂ = quartic;
      budgets = 6 ∷ [];
      answers = equivalent 6 ∷ [];
    }

-- m 4, n 4: x⁵+15x⁴+5x³+x²+2x+8 and the second one above: differs at 1, outputs 0 and 8, 2 run
unfoldable pub other_quintic : Pair
other_quintic =
    record {
      file₁ = written 4 (4 ∷ []) (x 0 ↑ 5 ⊕ constant 15 ⊗ x 0 ↑ 4 ⊕ constant 5 ⊗ x 0 ↑ 3 ⊕ x 0 ↑ 2 ⊕ constant 2 ⊗ x 0 ⊕ constant 8);
      file₂ = quartic;
      budgets = 2 ∷ [];
      answers = differs (1 ∷ []) 0 8 2 ∷ [];
    }

-- x(x−1)(x−2)
unfoldable pub three_factors : Expression
three_factors = x 0 ⊗ (x 0 ⊖ constant 1) ⊗ (x 0 ⊖ constant 2)

-- x(x−1)(x−2)(x−3)
unfoldable pub four_factors : Expression
four_factors = three_factors ⊗ (x 0 ⊖ constant 3)

-- m 4: x(x−1)(x−2)(x−3): n 2, equivalent after 4
unfoldable pub four_factors_of_2_bits : Pair
four_factors_of_2_bits =
    record {
      file₁ = written 4 (2 ∷ []) four_factors;
      file₂ = written 4 (2 ∷ []) (constant 0);
      budgets = 4 ∷ [];
      answers = equivalent 4 ∷ [];
    }

-- n 3, differs at 4, outputs 8 and 0, 5 run
unfoldable pub four_factors_of_3_bits : Pair
four_factors_of_3_bits =
    record {
      file₁ = written 4 (3 ∷ []) four_factors;
      file₂ = written 4 (3 ∷ []) (constant 0);
      budgets = 5 ∷ [];
      answers = differs (4 ∷ []) 8 0 5 ∷ [];
    }

-- m 3, n 8: x(x−1)(x−2) differs at 3, outputs 6 and 0, 4 run
unfoldable pub three_factors_of_8_bits : Pair
three_factors_of_8_bits =
    record {
      file₁ = written 3 (8 ∷ []) three_factors;
      file₂ = written 3 (8 ∷ []) (constant 0);
      budgets = 4 ∷ [];
      answers = differs (3 ∷ []) 6 0 4 ∷ [];
    }

-- times (x−3), equivalent after 4
unfoldable pub four_factors_of_8_bits : Pair
four_factors_of_8_bits =
    record {
      file₁ = written 3 (8 ∷ []) four_factors;
      file₂ = written 3 (8 ∷ []) (constant 0);
      budgets = 4 ∷ [];
      answers = equivalent 4 ∷ [];
    }

-- m 1, n 1: x and x²: equivalent, 2 run
unfoldable pub square_of_a_bit : Pair
square_of_a_bit =
    record {
      file₁ = written 1 (1 ∷ []) (x 0);
      file₂ = written 1 (1 ∷ []) (x 0 ↑ 2);
      budgets = 2 ∷ [];
      answers = equivalent 2 ∷ [];
    }

-- m 2, n 2 and 2: x1(x1−1)x2(x2−1): equivalent, 16 run
unfoldable pub two-inputs : Pair
two-inputs =
    record {
      file₁ = written 2 (2 ∷ 2 ∷ []) (x 0 ⊗ (x 0 ⊖ constant 1) ⊗ x 1 ⊗ (x 1 ⊖ constant 1));
      file₂ = written 2 (2 ∷ 2 ∷ []) (constant 0);
      budgets = 16 ∷ [];
      answers = equivalent 16 ∷ [];
    }

-- m 2, n 1 and 2: x1·x2, document 01's files a.dp and b.dp: differs at (1, 1), outputs 1 and 0, 6 run
unfoldable pub product : Pair
product = record { file₁ = a·dp; file₂ = b·dp; budgets = 6 ∷ []; answers = differs (1 ∷ 1 ∷ []) 1 0 6 ∷ [] }

unfoldable pub pairs : List Pair
pairs =
    quadratics
    ∷ quadratics_in_two
    ∷ quintic
    ∷ other_quintic
    ∷ four_factors_of_2_bits
    ∷ four_factors_of_3_bits
    ∷ three_factors_of_8_bits
    ∷ four_factors_of_8_bits
    ∷ square_of_a_bit
    ∷ two-inputs
    ∷ product
    ∷ []

-- past the last row, two empty files and no call
unfoldable pub pair_at : ℕ → Pair
pair_at i = get_or pairs i (record { file₁ = []; file₂ = []; budgets = []; answers = [] })
