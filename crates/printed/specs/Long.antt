-- What is printed of files that are longer than any that is accepted.
--   PrintedOfStarts   of a file that is longer than any that is accepted, its first bytes print what the whole file does. Proved in proofs/Long. So
--                     a reader may stop there
use Rattle.std.specs.Prelude.{◌≡◌, List, ℕ, ◌<◌, take}
use Rattle.file.specs.Long.{longest_file}
use Rattle.printed.specs.Report.{printed}

abbrev pub PrintedOfStarts : Type 0
PrintedOfStarts =
    (f₁ f₂ : List ℕ) (k₁ k₂ : ℕ) →
    longest_file < k₁ →
    longest_file < k₂ →
    printed (take k₁ f₁) (take k₂ f₂) ≡ printed f₁ f₂
