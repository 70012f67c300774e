-- What is printed of two files, and the text of a continue call's answer (document 01, 'Pairs').
--   grid_text f₁              the line of the compared grid
--   verdict_text f₁ f₂        the line of the verdict: differ, with the first differing vector and both outputs there, or equivalent
--   printed f₁ f₂            what the comparing program prints of two files
--   shown_text k z a          the line of the verdict that the answer a gives, of the kind k, on files of the sizes z; none where it gives none
--   report_of f₁ f₂ a n       the text of the answer a, after n vectors over all calls
--   text_room                 the bytes that a text slice has to have
use Rattle.std.specs.Prelude.{cond, List, [], ◌++◌, ℕ, ltb}
use Rattle.evaluate.specs.Evaluate.{output_of, vector_of}
use Rattle.fields.specs.File.{sizes_of}
use Rattle.grid.specs.Grid.{axes_of, grid_size}
use Rattle.sessions.specs.Demand3.{first_place, stop, stop_vector}
use Rattle.sessions.specs.Session.{opened}
use Rattle.sessions.specs.declared.Answer.{Answer}
use Rattle.sessions.specs.declared.Kind.{Kind}
use Rattle.sessions.specs.declared.Kind.TheVariants.{Refused, Spent, Equivalent, Differs}
use Rattle.sizes.specs.Sizes.{is_refusal}
use Rattle.sizes.specs.declared.Sizes.{Sizes}
use Rattle.printed.specs.Lines.{refusal_line, grid_line, differ_line, equivalent_line, run_line}

-- both files have the sizes of the first
unfoldable pub grid_text : List ℕ → List ℕ
grid_text f₁ = grid_line (axes_of (sizes_of f₁)) (grid_size (sizes_of f₁))

unfoldable pub verdict_text : List ℕ → List ℕ → List ℕ
verdict_text f₁ f₂ =
    cond (ltb (first_place f₁ f₂) (grid_size (sizes_of f₁)))
    (differ_line (stop_vector f₁ f₂) (output_of f₁ (stop_vector f₁ f₂)) (output_of f₂ (stop_vector f₁ f₂)))
    equivalent_line

unfoldable pub printed : List ℕ → List ℕ → List ℕ
printed f₁ f₂ =
    cond (is_refusal (opened f₁ f₂).refusal) (refusal_line (opened f₁ f₂).refusal)
    (grid_text f₁ ++ verdict_text f₁ f₂ ++ run_line (stop f₁ f₂))

unfoldable pub shown_text : Kind → Sizes → Answer → List ℕ
shown_text Refused z a = []
shown_text Spent z a = []
shown_text Equivalent z a = equivalent_line
shown_text Differs z a = differ_line (vector_of z a.vector) a.output1 a.output2

-- the text of a verdict: none where opening the files is refused
unfoldable pub concluded : List ℕ → List ℕ → Answer → ℕ → List ℕ
concluded f₁ f₂ a n =
    cond (is_refusal (opened f₁ f₂).refusal) []
    (grid_text f₁ ++ shown_text a.kind (sizes_of f₁) a ++ run_line n)

-- by the kind of the answer
unfoldable pub report_as : Kind → List ℕ → List ℕ → Answer → ℕ → List ℕ
report_as Refused f₁ f₂ a n = refusal_line a.refusal
report_as Spent f₁ f₂ a n = []
report_as Equivalent f₁ f₂ a n = concluded f₁ f₂ a n
report_as Differs f₁ f₂ a n = concluded f₁ f₂ a n

unfoldable pub report_of : List ℕ → List ℕ → Answer → ℕ → List ℕ
report_of f₁ f₂ a n = report_as a.kind f₁ f₂ a n

abbrev pub text_room : ℕ
text_room = 512
