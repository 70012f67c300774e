-- Of a file that is longer than any that is accepted, its first bytes print what the whole file does: they are refused by the same number, and the
-- whole file too. A file that is not longer is its own start.
use mathlib.Core.List.{List}
use mathlib.Core.Logic.{◌⊎◌, inl, inr, ⊎_elim}
use mathlib.Core.Path.{◌≡◌, sym, ◌∙◌, ap}
use Prim.Native.Nat.{ℕ, ◌<◌}
use native.Mathlib.Decide.{dec_le, ℕ_discrete}
use native.Mathlib.Omega.{arith}
use lib.ListN.{length, take, drop, take-append-drop}
use lib.Seq.{take_all, length-take-le}
use Rattle.file.specs.Check.{file_number, refusal_of}
use Rattle.file.specs.Long.{longest_file}
use Rattle.file.proofs.Long.{long_file}
use Rattle.file.proofs.Number.{refusal-number}
use Rattle.printed.specs.Report.{printed}
use Rattle.printed.specs.Lines.{refusal_line}
use Rattle.sessions.specs.Session.{pair_refusal, opened}
use Rattle.sessions.proofs.Pair.{pair-first, pair-second}
use borrow.Author.Tests.{ne_eqb}
use Rattle.printed.specs.Long.{PrintedOfStarts}

-- a file and a start of it: the same, or refused alike
record Start (start file : List ℕ) : Type 0 where
  either : (start ≡ file) ⊎ (¬ (file_number start ≡ 0))
  number : file_number start ≡ file_number file
  refusal : (w : ℕ) → refusal_of w start ≡ refusal_of w file

start_of : (f : List ℕ) (k : ℕ) → longest_file < k → Start (take k f) f
start_of f k l =
    elim (dec_le (length f) k) [
      | yes h ↦
          let e = take_all k f h in
          record { either = inl e; number = ap file_number e; refusal = λ w. ap (refusal_of w) e }
      | no n ↦
          let long : length (take k f) ≡ k = length-take-le k f (omega arith) in
          let whole = take-append-drop k f in
          let c = long_file (take k f) (drop k f) (omega arith) in
          record {
            either = inr c.refused;
            number = sym c.number ∙ ap file_number whole;
            refusal = λ w. sym (c.refusal w) ∙ ap (refusal_of w) whole;
          }
    ]

-- what is printed where the pair is refused by a number
printed-refused : (f₁ f₂ : List ℕ) (w : ℕ) (f : List ℕ) → pair_refusal f₁ f₂ ≡ refusal_of w f → ¬ (file_number f ≡ 0) → printed f₁ f₂ ≡ refusal_line (refusal_of w f)
unfolding printed opened
printed-refused f₁ f₂ w f e n = rw (e, ne_eqb (refusal_of w f).number 0 (λ z. n (sym (refusal-number f w) ∙ z)))

pub printed_of_starts : PrintedOfStarts
printed_of_starts f₁ f₂ k₁ k₂ l₁ l₂ =
    let s₁ = start_of f₁ k₁ l₁ in
    let s₂ = start_of f₂ k₂ l₂ in
    elim (ℕ_discrete (file_number (take k₁ f₁)) 0) [
      | yes a ↦ elim (ℕ_discrete (file_number (take k₂ f₂)) 0) [
        | yes b ↦ both (same (take k₁ f₁) f₁ s₁ a) (same (take k₂ f₂) f₂ s₂ b)
        | no n ↦
            printed-refused _ _ 2 (take k₂ f₂) (pair-second _ _ a n) n
            ∙ ap refusal_line (s₂.refusal 2)
            ∙ sym (printed-refused _ _ 2 f₂ (pair-second _ _ (sym s₁.number ∙ a) (λ e. n (s₂.number ∙ e))) (λ e. n (s₂.number ∙ e)))
      ]
      | no n ↦
          printed-refused _ _ 1 (take k₁ f₁) (pair-first _ _ n) n
          ∙ ap refusal_line (s₁.refusal 1)
          ∙ sym (printed-refused _ _ 1 f₁ (pair-first _ _ (λ e. n (s₁.number ∙ e))) (λ e. n (s₁.number ∙ e)))
    ]
  where
    same : (start file : List ℕ) → Start start file → file_number start ≡ 0 → start ≡ file
    same start file s e = ⊎_elim (λ q. q) (λ n. absurd (n e)) s.either

    both : {a b c d : List ℕ} → a ≡ b → c ≡ d → printed a c ≡ printed b d
    both p q = rw (p, q)
