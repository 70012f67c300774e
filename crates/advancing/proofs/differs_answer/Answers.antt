-- `advancing::differs_answer` meets its contract: the vector at the place, and the two outputs there. Each evaluation leaves the entries past its own
-- count.
-- Assumes nothing.
use mathlib.Core.List.{map}
use mathlib.Core.Path.{sym, ◌∙◌, ap}
use native.Mathlib.Nat.{le-max_left, le-max_right}
use native.Mathlib.Omega.{arith}
use lib.ListN.{length}
use Rattle.evaluate.specs.Run.{word_output}
use Rattle.evaluate.proofs.Words.{padded-output}
use Rattle.fields.specs.File.{sizes_of}
use Rattle.grid.specs.Grid.{lows_of, grid_size, grid_vector}
use Rattle.grid.proofs.Grids.{length-lows}
use Rattle.lists.proofs.Lists.{drop-later}
use Rattle.places.specs.Vectors.{vector_at}
use Rattle.plan.proofs.Numbers as plan
use Rattle.sessions.specs.Session.{differs_answer}
use Rattle.sessions.specs.declared.Kind.TheVariants.{Differs}
use Rattle.sizes.specs.Padded.{padded}
use Rattle.vectors.specs.Vectors.{low_words}
use Rattle.words.specs.Words.{word}
use Rattle.advancing.proofs.differs_answer.Goals as goal

pub vector_at-vector-requires : goal.vector_at-vector-requires
unfolding grid_size
vector_at-vector-requires c =
    let k = c.requires.planned in
    record { d_le_max_inputs = omega (arith, plan.inputs k, k.files.sound₁.inputs_high); p_bound = rw (plan.grid k) (rw (plan.vectors k) at c.requires.place_lt_size.0) }

pub output_at-output1-requires : goal.output_at-output1-requires
output_at-output1-requires c =
    let k = c.requires.planned in
    record {
      sound = k.files.sound₁;
      count = plan.count₁ k;
      inputs = omega (arith, k.files.sound₁.inputs_high);
      room = omega (arith, c.requires.place_lt_size.1, le-max_left c.args.plan.n1 c.args.plan.n2);
    }

pub output_at-output2-requires : goal.output_at-output2-requires
output_at-output2-requires c =
    let k = c.requires.planned in
    record {
      sound = k.files.sound₂;
      count = plan.count₂ k;
      inputs = omega (arith, k.files.sound₂.inputs_high);
      room = omega (arith, c.requires.place_lt_size.1, le-max_right c.args.plan.n1 c.args.plan.n2, c.output_at-output1.auto.scratch);
    }

pub returns : goal.returns
unfolding differs_answer grid_vector low_words
returns c =
    let a = c.args in
    let s₁ = a.file1.now in
    let s₂ = a.file2.now in
    let k = c.requires.planned in
    let z = sizes_of s₁ in
    let x = grid_vector z a.place in
    let v =
    c.vector_at-vector.ensures.integers (lows_of z)
    (length-lows z ∙ sym (ap length (plan.grid k))) (plan.lowest k)
    ∙ ap (λ axes. padded (map word (vector_at (lows_of z) axes a.place))) (plan.grid k) in
    let o₁ = c.output_at-output1.ensures.output ∙ ap (word_output s₁) v ∙ padded-output s₁ k.files.sound₁ x in
    let o₂ = c.output_at-output2.ensures.output ∙ ap (word_output s₂) v ∙ padded-output s₂ k.files.sound₂ x in
    record {
      answer = λ i. record { refusal = c.refused_by.ensures i; kind = Differs; run = a.run; vector = v i; output1 = o₁ i; output2 = o₂ i };
      kept =
          drop-later _ _ a.plan.n2 _ (le-max_right a.plan.n1 a.plan.n2) c.output_at-output2.ensures.kept
          ∙ drop-later _ _ a.plan.n1 _ (le-max_left a.plan.n1 a.plan.n2) c.output_at-output1.ensures.kept;
    }
