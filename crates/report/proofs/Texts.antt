-- The text that a slice is given, by its room. Assumes nothing.
use mathlib.Core.Path.{◌≡◌}
use mathlib.Core.List.{List, []}
use Prim.Native.Nat.{ℕ, ◌<◌, ◌≤◌}
use borrow.Author.Tests.{lt-ltb, le-ltb}
use Rattle.sessions.specs.declared.Answer.{Answer}
use Rattle.report.specs.Report.{report_of, text_room, reported}

module _ (f₁ f₂ : List ℕ) (a : Answer) (n room : ℕ) where
  pub reported-short : room < text_room → reported f₁ f₂ a n room ≡ []
  unfolding reported
  reported-short h = rw (lt-ltb room text_room h)

  pub reported-whole : text_room ≤ room → reported f₁ f₂ a n room ≡ report_of f₁ f₂ a n
  unfolding reported
  reported-whole h = rw (le-ltb room text_room h)
