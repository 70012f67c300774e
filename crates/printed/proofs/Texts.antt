-- The text of an answer by its cases. Assumes nothing.
use mathlib.Core.Path.{◌≡◌, ap}
use mathlib.Core.List.{List, [], ◌++◌}
use Prim.Native.Nat.{ℕ}
use borrow.Author.Tests.{eq-eqb, ne_eqb}
use Rattle.file.specs.Accepted.{Accepted}
use Rattle.fields.specs.File.{sizes_of}
use Rattle.sessions.specs.Session.{opened}
use Rattle.sessions.specs.declared.Answer.{Answer}
use Rattle.sessions.specs.declared.Kind.{Kind}
use Rattle.sessions.specs.declared.Kind.TheVariants.{Refused, Spent, Equivalent, Differs}
use Rattle.sessions.proofs.Pair.{comparable, pair-accepted}
use Rattle.printed.specs.Report.{grid_text, shown_text, concluded, report_as, report_of}
use Rattle.printed.specs.Lines.{refusal_line, run_line}

module _ (f₁ f₂ : List ℕ) where
  pub concluded-refused : (a : Answer) (n : ℕ) → ¬ ((opened f₁ f₂).refusal.number ≡ 0) → concluded f₁ f₂ a n ≡ []
  unfolding concluded
  concluded-refused a n h = rw (ne_eqb (opened f₁ f₂).refusal.number 0 h)

  module _ (h : (opened f₁ f₂).refusal.number ≡ 0) where
    pub concluded-lines : (a : Answer) (n : ℕ) → concluded f₁ f₂ a n ≡ grid_text f₁ ++ shown_text a.kind (sizes_of f₁) a ++ run_line n
    unfolding concluded
    concluded-lines a n = rw (eq-eqb (opened f₁ f₂).refusal.number 0 h)

    pub first-accepted : Accepted f₁
    first-accepted = (comparable f₁ f₂ (pair-accepted f₁ f₂ h)).sound₁

  -- the report of an answer of the kind k
  as_kind : (k : Kind) (a : Answer) (n : ℕ) → a.kind ≡ k → report_of f₁ f₂ a n ≡ report_as k f₁ f₂ a n
  unfolding report_of
  as_kind k a n e = ap (λ (k : Kind). report_as k f₁ f₂ a n) e

  pub report_refused : (a : Answer) (n : ℕ) → a.kind ≡ Refused → report_of f₁ f₂ a n ≡ refusal_line a.refusal
  unfolding report_as
  report_refused a n e = as_kind Refused a n e

  pub report_spent : (a : Answer) (n : ℕ) → a.kind ≡ Spent → report_of f₁ f₂ a n ≡ []
  unfolding report_as
  report_spent a n e = as_kind Spent a n e

  pub report_equivalent : (a : Answer) (n : ℕ) → a.kind ≡ Equivalent → report_of f₁ f₂ a n ≡ concluded f₁ f₂ a n
  unfolding report_as
  report_equivalent a n e = as_kind Equivalent a n e

  pub report_differs : (a : Answer) (n : ℕ) → a.kind ≡ Differs → report_of f₁ f₂ a n ≡ concluded f₁ f₂ a n
  unfolding report_as
  report_differs a n e = as_kind Differs a n e
