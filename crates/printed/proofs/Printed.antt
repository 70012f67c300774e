-- What is printed of two files tells their comparison. It is three lines; the verdict's line goes by whether a place of the grid
-- differs, which by the verdict of sessions says whether any full-width vector does, and which is the first. Assumes nothing.
use mathlib.Core.Path.{◌≡◌, refl, ap}
use mathlib.Core.Bool.{true}
use mathlib.Core.Logic.{◌↔◌}
use mathlib.Core.List.{List, [], ◌∷◌, ◌++◌}
use Prim.Native.Nat.{ℕ, ◌≤◌, ◌<◌}
use native.Mathlib.Decide.{dec_lt}
use native.Mathlib.Omega.{arith}
use lib.ListN.{get_or}
use borrow.Author.Tests.{lt-ltb, le-ltb, eq-eqb, ne_eqb}
use Rattle.evaluate.specs.Evaluate.{output_of}
use Rattle.fields.specs.File.{sizes_of}
use Rattle.grid.specs.Grid.{grid_size, grid_vector}
use Rattle.sessions.specs.Demand3.{first_place, stop, stop_vector, ShowsFirst, Settled}
use Rattle.sessions.specs.Session.{opened, plain_answer, differs_answer}
use Rattle.sessions.specs.declared.Kind.TheVariants.{Equivalent}
use Rattle.sessions.proofs.Pair.{pair-accepted}
use Rattle.sessions.proofs.Step.{equivalent, differs}
use Rattle.sessions.proofs.Verdict.{settled}
use Rattle.sizes.specs.declared.Refusal.{Refusal}
use Rattle.printed.specs.Claims.{AllEqual, DifferLine, Tells, PrintedTells, Refuses, RefusedLine, RefusedText}
use Rattle.printed.specs.Report.{grid_text, verdict_text, printed}
use Rattle.text.specs.Decimal.{decimal}
use Rattle.text.specs.Text.{ascii, line_feed, line, words}
use Rattle.printed.specs.Lines.{refusal_line, differ_line, equivalent_line, run_line}
use Rattle.text.proofs.Pieces.{free, free-decimal, pieces-words}
use Rattle.printed.proofs.Texts.{report_refused}
use Rattle.printed.proofs.ThreeLines.{numbers_free, lines_of_one, three_lines, differ_bytes, differ-free, differ-words}

module _ (f₁ f₂ : List ℕ) (o : (opened f₁ f₂).refusal.number ≡ 0) where
  abbrev place : ℕ
  place = first_place f₁ f₂

  abbrev G : ℕ
  G = grid_size (sizes_of f₁)

  abbrev D : ℕ
  D = stop f₁ f₂

  -- no place of the grid differs
  pub all-equal : G ≤ place → AllEqual f₁ f₂
  unfolding plain_answer
  all-equal l = (settled f₁ f₂ (pair-accepted f₁ f₂ o) (plain_answer Equivalent 0) (equivalent 0 l refl)).equivalent.0 refl

  -- some place does
  module _ (l : place < G) where
    answered : Settled f₁ f₂ (differs_answer f₁ f₂ (grid_vector (sizes_of f₁) place) 0)
    answered = settled f₁ f₂ (pair-accepted f₁ f₂ o) _ (differs 0 l refl)

    pub not_equal : ¬ AllEqual f₁ f₂
    unfolding differs_answer
    not_equal all = let e = answered.equivalent.1 all in let q : ◌≡◌ {A = ℕ} 0 1 = cc in omega arith

    shows : ShowsFirst f₁ f₂ (differs_answer f₁ f₂ (grid_vector (sizes_of f₁) place) 0)
    unfolding differs_answer
    shows = answered.differs refl

  pub verdict-equivalent : G ≤ place → verdict_text f₁ f₂ ≡ equivalent_line
  unfolding verdict_text
  verdict-equivalent l = rw (le-ltb place G l)

  pub verdict-differs :
      place < G →
      verdict_text f₁ f₂ ≡ differ_line (stop_vector f₁ f₂) (output_of f₁ (stop_vector f₁ f₂)) (output_of f₂ (stop_vector f₁ f₂))
  unfolding verdict_text
  verdict-differs l = rw (lt-ltb place G l)

  pub printed-lines : printed f₁ f₂ ≡ grid_text f₁ ++ verdict_text f₁ f₂ ++ run_line D
  unfolding printed
  printed-lines = rw (eq-eqb (opened f₁ f₂).refusal.number 0 o)

  -- with the verdict's line given
  tells_with :
      (v : List ℕ) → verdict_text f₁ f₂ ≡ line v → free line_feed v ≡ true → (v ≡ ascii "equivalent") ↔ AllEqual f₁ f₂ →
      (¬ AllEqual f₁ f₂ → DifferLine f₁ f₂ v) → Tells f₁ f₂ (printed f₁ f₂)
  tells_with v shown one said otherwise =
      record {
        verdict = v;
        lines = rw (printed-lines, shown) (three_lines f₁ v D one);
        equivalent = said;
        differ = otherwise;
      }

  tells-equivalent : G ≤ place → Tells f₁ f₂ (printed f₁ f₂)
  unfolding equivalent_line
  tells-equivalent l =
      let all = all-equal l in
      tells_with (ascii "equivalent") (verdict-equivalent l) refl (λ _. all, λ _. refl) (λ n. absurd (n all))

  tells-differs : place < G → Tells f₁ f₂ (printed f₁ f₂)
  unfolding differ_line
  tells-differs l =
      let x = stop_vector f₁ f₂ in
      let o₁ = output_of f₁ x in
      let o₂ = output_of f₂ x in
      tells_with (differ_bytes x o₁ o₂) (verdict-differs l) (differ-free x o₁ o₂)
      (λ e. absurd (omega (arith, ap (λ (bytes : List ℕ). get_or bytes 0 0) e)), λ all. absurd (not_equal l all))
      (λ _. record {
        vector = x;
        first = (shows l).first;
        words = differ-words x o₁ o₂;
      })

  tells : Tells f₁ f₂ (printed f₁ f₂)
  tells = elim (dec_lt place G) [ yes l ↦ tells-differs l | no l ↦ tells-equivalent (omega arith) ]

pub printed_tells : PrintedTells
printed_tells f₁ f₂ o = tells f₁ f₂ o

-- the line of a refusal
refuses : (r : Refusal) → Refuses r (refusal_line r)
unfolding refusal_line
refuses r =
    let ns = r.number ∷ r.file ∷ r.step ∷ [] in
    record {
      line = words "refused" ns;
      split = lines_of_one (words "refused" ns) (numbers_free (ascii "refused") ns refl);
      words = pieces-words decimal free-decimal (ascii "refused") ns refl;
    }

pub refused_line : RefusedLine
unfolding printed
refused_line f₁ f₂ h = rw (ne_eqb (opened f₁ f₂).refusal.number 0 h) (refuses (opened f₁ f₂).refusal)

pub refused_text : RefusedText
refused_text f₁ f₂ a n e = rw (report_refused f₁ f₂ a n e) (refuses a.refusal)
