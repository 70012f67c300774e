-- Every row of the table holds. One test over the whole table computes, of each pair, the number of its opening, the answers to its calls
-- and its stop, and finds what the row claims. The law takes row i out of the test. The sizes of a file, and the
-- exact value of its last step at any vector, compute to what the statement says.
-- Assumes nothing.
use mathlib.Core.Path.{◌≡◌, refl, ap}
use mathlib.Core.List.{List, [], ◌∷◌, map}
use Prim.Native.Nat.{ℕ, zero, suc, ◌<◌}
use native.Mathlib.Omega.{arith}
use lib.IntN.{ℤ}
use lib.ListN.{length, get_or}
use Rattle.bound.specs.Axes.{axis}
use Rattle.bound.specs.Bound.{bound, log2, greedy}
use Rattle.engine.specs.Engine.{outputs_differ}
use Rattle.evaluate.specs.Evaluate.{output_of}
use Rattle.file.specs.Check.{file_number, shown_step, refusal_of, too_short, short_of_head, bad_count, bad_length, bad_operation, operands_rule, argument_rule, bad_argument, step_fault, faulty_at, faulty_step, head_fault}
use Rattle.fields.specs.File.{width_bytes, sizes_of, step_count, operation, argument}
use Rattle.fields.specs.Steps.{decoded, step_at, steps_from, steps_of}
use Rattle.formats.specs.Bytes.{format_of}
use Rattle.formats.specs.Formats.{lowest}
use Rattle.grid.specs.Grid.{axes_of, lows_of, grid_size, grid_vector}
use Rattle.integers.specs.Modulo.{remainder}
use Rattle.places.specs.Places.{size, digits_at}
use Rattle.places.specs.Vectors.{counted, vector_at}
use Rattle.printed.specs.Listings.{a·dp, b·dp}
use Rattle.ranges.specs.Search.{first, every}
use Rattle.sessions.specs.Calls.{answer_to, answers, vectors_run}
use Rattle.sessions.specs.Demand3.{start, first_place, stop}
use Rattle.sessions.specs.Session.{same_sizes, pair_refusal, no_session, opened, misplaced, is_closed, state_refusal, continue_refusal, refused_answer, plain_answer, differs_answer, progress, advanced, continued}
use Rattle.sessions.specs.declared.Answer.{Answer}
use Rattle.sizes.specs.Sizes.{bad_output, bad_inputs, width_rule, bad_widths}
use Rattle.datapath.specs.Steps.{step_value, values, exact, output}
use Rattle.grid_theorem.specs.Comparison.{differs_at, first_difference}
use Rattle.words.specs.Bytes.{little}
use Rattle.pairs.specs.Written.{x, constant, joined, power, bytes, operation_byte, argument_of, argument_bytes, written}
use Rattle.pairs.specs.Pairs.{
  Pair,
  first_quadratic,
  second_quadratic,
  quartic,
  three_factors,
  four_factors,
  quadratics,
  quadratics_in_two,
  quintic,
  other_quintic,
  four_factors_of_2_bits,
  four_factors_of_3_bits,
  three_factors_of_8_bits,
  four_factors_of_8_bits,
  square_of_a_bit,
  two-inputs,
  product,
  pairs,
  pair_at,
}
use Rattle.pairs.specs.Statement.{StarredPairs}
use Rattle.pairs.specs.Holds.{calls, Holds}

-- the opening's number, the answers and the stop: by the definitions, and as the row claims
found : Pair → ℕ × List Answer × ℕ
found p = (
  (opened p.file₁ p.file₂).refusal.number,
  answers (start p.file₁ p.file₂) (calls p),
  stop p.file₁ p.file₂,
)

claimed : Pair → ℕ × List Answer × ℕ
claimed p = (0, p.answers, vectors_run p.answers)

all_found : map found pairs ≡ map claimed pairs
unfolding found claimed
    pairs quadratics quadratics_in_two quintic other_quintic four_factors_of_2_bits four_factors_of_3_bits
    three_factors_of_8_bits four_factors_of_8_bits square_of_a_bit two-inputs product
    first_quadratic second_quadratic quartic three_factors four_factors a·dp b·dp
    written argument_bytes argument_of operation_byte bytes power joined constant x
    opened no_session pair_refusal same_sizes answers answer_to continued continue_refusal state_refusal misplaced is_closed
    advanced progress refused_answer plain_answer differs_answer outputs_differ output_of vectors_run stop first_place
    refusal_of shown_step file_number head_fault too_short short_of_head bad_output bad_inputs bad_count bad_widths width_rule bad_length
    faulty_step faulty_at step_fault bad_operation bad_argument argument_rule operands_rule
    width_bytes sizes_of step_count operation argument little steps_of steps_from step_at decoded
    axes_of lows_of grid_size grid_vector axis bound log2 greedy size digits_at format_of lowest counted vector_at
    every first first_difference differs_at output exact values step_value remainder
all_found = refl

-- two functions that are equal along a list are equal at each of its entries
map_at :
    {A B : Type 0} (f g : A → B) (l : List A) (i : ℕ) (d : A) →
    map f l ≡ map g l →
    i < length l →
    f (get_or l i d) ≡ g (get_or l i d)
map_at f g [] i d e l = absurd (omega arith)
map_at f g (a ∷ rest) zero d e l = cc
map_at f g (a ∷ rest) (suc i) d e l = map_at f g rest i d (cc) (omega arith)

row : (i : ℕ) → i < length pairs → Holds (pair_at i)
unfolding pair_at found claimed
row i l =
    let e = map_at found claimed pairs i _ all_found l in
    record { accepted = ap (λ r. r.0) e; answered = ap (λ r. r.1) e; stopped = ap (λ r. r.2) e }

-- equal at all vectors, where both sides compute to one function
all : (f : List ℤ → ℤ) (v : List ℤ) → f v ≡ f v
all f v = refl

pub starred_pairs : StarredPairs
unfolding pairs pair_at
    quadratics quadratics_in_two quintic other_quintic four_factors_of_2_bits four_factors_of_3_bits
    three_factors_of_8_bits four_factors_of_8_bits square_of_a_bit two-inputs product
    first_quadratic second_quadratic quartic three_factors four_factors a·dp b·dp
    written argument_bytes argument_of operation_byte bytes power joined constant x
    width_bytes sizes_of step_count operation argument little steps_of steps_from step_at decoded exact values step_value
starred_pairs =
    record {
      rows = refl;
      count = refl;
      each = row;
      quadratics =
          record { sizes = (refl, refl); values = (all _, all _); calls = (refl, refl); holds = row 0 (omega arith) };
      quadratics_in_two =
          record { sizes = (refl, refl); values = (all _, all _); calls = (refl, refl); holds = row 1 (omega arith) };
      quintic =
          record { sizes = (refl, refl); values = (all _, all _); calls = (refl, refl); holds = row 2 (omega arith) };
      other_quintic =
          record { sizes = (refl, refl); values = (all _, all _); calls = (refl, refl); holds = row 3 (omega arith) };
      four_factors_of_2_bits =
          record { sizes = (refl, refl); values = (all _, all _); calls = (refl, refl); holds = row 4 (omega arith) };
      four_factors_of_3_bits =
          record { sizes = (refl, refl); values = (all _, all _); calls = (refl, refl); holds = row 5 (omega arith) };
      three_factors_of_8_bits =
          record { sizes = (refl, refl); values = (all _, all _); calls = (refl, refl); holds = row 6 (omega arith) };
      four_factors_of_8_bits =
          record { sizes = (refl, refl); values = (all _, all _); calls = (refl, refl); holds = row 7 (omega arith) };
      square_of_a_bit =
          record { sizes = (refl, refl); values = (all _, all _); calls = (refl, refl); holds = row 8 (omega arith) };
      two-inputs =
          record { sizes = (refl, refl); values = (all _, all _); calls = (refl, refl); holds = row 9 (omega arith) };
      product =
          record { sizes = (refl, refl); values = (all _, all _); calls = (refl, refl); holds = row 10 (omega arith) };
    }
