-- The texts of the tables are what is printed: one test over each whole table computes them.
use mathlib.Core.Path.{refl}
use Rattle.bound.specs.Axes.{axis}
use Rattle.bound.specs.Bound.{bound, log2, greedy}
use Rattle.evaluate.specs.Evaluate.{output_of}
use Rattle.file.specs.Check.{file_number, shown_step, refusal_of, too_short, short_of_head, bad_count, bad_length, bad_operation, operands_rule, argument_rule, bad_argument, step_fault, faulty_at, faulty_step, head_fault}
use Rattle.fields.specs.File.{width_bytes, sizes_of, step_count, operation, argument}
use Rattle.fields.specs.Steps.{decoded, step_at, steps_from, steps_of}
use Rattle.formats.specs.Bytes.{format_of}
use Rattle.formats.specs.Formats.{lowest}
use Rattle.grid.specs.Grid.{axes_of, lows_of, grid_size, grid_vector}
use Rattle.integers.specs.Modulo.{remainder}
use Rattle.places.specs.Places.{size, digits_at}
use Rattle.places.specs.Vectors.{counted, vector_at}
use Rattle.ranges.specs.Search.{first, every}
use Rattle.sessions.specs.Demand3.{first_place, stop}
use Rattle.sessions.specs.Session.{same_sizes, pair_refusal, no_session, opened}
use Rattle.sizes.specs.Sizes.{bad_output, bad_inputs, width_rule, bad_widths}
use Rattle.datapath.specs.Steps.{step_value, values, exact, output}
use Rattle.grid_theorem.specs.Comparison.{differs_at, first_difference}
use Rattle.words.specs.Bytes.{little}
use Rattle.text.specs.Decimal.{digits_of, decimal, integer}
use Rattle.printed.specs.Listings.{a·dp, b·dp, ten_product, ten_zero, signed-constant, extreme_constant, listing_table, Listings, refused_table, RefusedListings}
use Rattle.printed.specs.Report.{grid_text, verdict_text, printed}
use Rattle.text.specs.Text.{spaced_by}
use Rattle.printed.specs.Lines.{refusal_line, grid_line, differ_line, equivalent_line, run_line}

-- both tables at once
computed : Listings × RefusedListings
unfolding listing_table refused_table a·dp b·dp ten_product ten_zero signed-constant extreme_constant
    printed grid_text verdict_text grid_line differ_line equivalent_line run_line refusal_line spaced_by decimal digits_of integer
    opened no_session pair_refusal same_sizes output_of stop first_place
    refusal_of shown_step file_number head_fault too_short short_of_head bad_output bad_inputs bad_count bad_widths width_rule bad_length
    faulty_step faulty_at step_fault bad_operation bad_argument argument_rule operands_rule
    width_bytes sizes_of step_count operation argument little steps_of steps_from step_at decoded
    axes_of lows_of grid_size grid_vector axis bound log2 greedy size digits_at vector_at counted format_of lowest
    every first first_difference differs_at output exact values step_value remainder
computed = (refl, refl)

pub listings : Listings
listings = computed.0

pub refused_listings : RefusedListings
refused_listings = computed.1
