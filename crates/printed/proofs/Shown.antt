-- The text of a verdict is three lines, of which the second is the answer's, by its kind; a spent answer and a verdict on files that opening
-- refuses have no text. Each by the cases of the text. Assumes nothing.
use mathlib.Core.Path.{◌≡◌, refl, ◌∙◌, ap}
use mathlib.Core.Bool.{true}
use mathlib.Core.Logic.{inl, inr}
use mathlib.Core.List.{List}
use Prim.Native.Nat.{ℕ}
use native.Mathlib.Omega.{arith}
use Rattle.evaluate.specs.Evaluate.{vector_of}
use Rattle.fields.specs.File.{sizes_of}
use Rattle.sessions.specs.Session.{opened}
use Rattle.sessions.specs.declared.Answer.{Answer}
use Rattle.sessions.specs.declared.Kind.{Kind}
use Rattle.sessions.specs.declared.Kind.TheVariants.{Equivalent, Differs}
use Rattle.sizes.specs.declared.Sizes.{Sizes}
use Rattle.printed.specs.Claims.{ThreeLines, Shows, ShownAsIs, NoText}
use Rattle.printed.specs.Report.{shown_text, concluded, report_of}
use Rattle.text.specs.Text.{ascii, line_feed, line}
use Rattle.printed.specs.Lines.{differ_line, equivalent_line}
use Rattle.text.proofs.Pieces.{free}
use Rattle.printed.proofs.Texts.{concluded-refused, concluded-lines, report_spent, report_equivalent, report_differs}
use Rattle.printed.proofs.ThreeLines.{three_lines, differ_bytes, differ-free, differ-words}

pub no_text : NoText
no_text =
    record {
      spent = report_spent;
      unopened = λ f₁ f₂ h a n v. elim v [
        | inl e ↦ report_equivalent f₁ f₂ a n e ∙ concluded-refused f₁ f₂ a n h
        | inr e ↦ report_differs f₁ f₂ a n e ∙ concluded-refused f₁ f₂ a n h
      ];
    }

-- the line of the verdict, by the kind of the answer
module _ (z : Sizes) (a : Answer) where
  pub line-equivalent : a.kind ≡ Equivalent → shown_text a.kind z a ≡ equivalent_line
  unfolding shown_text
  line-equivalent e = ap (λ (k : Kind). shown_text k z a) e

  pub line-differs : a.kind ≡ Differs → shown_text a.kind z a ≡ differ_line (vector_of z a.vector) a.output1 a.output2
  unfolding shown_text
  line-differs e = ap (λ (k : Kind). shown_text k z a) e

module _ (f₁ f₂ : List ℕ) (o : (opened f₁ f₂).refusal.number ≡ 0) (a : Answer) (n : ℕ) where
  -- with the verdict's line given
  with_line :
      (v : List ℕ) → shown_text a.kind (sizes_of f₁) a ≡ line v → free line_feed v ≡ true → ThreeLines f₁ n v (concluded f₁ f₂ a n)
  with_line v shown one = rw (concluded-lines f₁ f₂ o a n, shown) (three_lines f₁ v n one)

  shows-equivalent : a.kind ≡ Equivalent → Shows f₁ a n (report_of f₁ f₂ a n)
  unfolding equivalent_line
  shows-equivalent e =
      rw (report_equivalent f₁ f₂ a n e) (record {
        verdict = ascii "equivalent";
        lines = with_line (ascii "equivalent") (line-equivalent (sizes_of f₁) a e) refl;
        equivalent = λ _. refl;
        differs = λ q. absurd (let z : ◌≡◌ {A = ℕ} 0 1 = cc in omega arith);
      })

  shows-differs : a.kind ≡ Differs → Shows f₁ a n (report_of f₁ f₂ a n)
  unfolding differ_line
  shows-differs e =
      let x = vector_of (sizes_of f₁) a.vector in
      rw (report_differs f₁ f₂ a n e) (record {
        verdict = differ_bytes x a.output1 a.output2;
        lines =
            with_line (differ_bytes x a.output1 a.output2) (line-differs (sizes_of f₁) a e)
            (differ-free x a.output1 a.output2);
        equivalent = λ q. absurd (let z : ◌≡◌ {A = ℕ} 0 1 = cc in omega arith);
        differs = λ _. differ-words x a.output1 a.output2;
      })

pub shown_as_is : ShownAsIs
shown_as_is f₁ f₂ o a n (inl e) = shows-equivalent f₁ f₂ o a n e
shown_as_is f₁ f₂ o a n (inr e) = shows-differs f₁ f₂ o a n e
