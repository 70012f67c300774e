-- The entries of `lines`: place (b·u + k)·w + p, with k below u and p below w, is entry k of the line whose entries are at the places
-- (b·u + t)·w + p. Every place is of this form, so a list is known by its entries there.
use Rattle.std.proofs.Common.{◌≡◌, ℕ, ◌+◌, ◌-◌, ◌*◌, ◌/◌, ◌%◌, ◌<◌, List, length, get_or, ℤ, sym, ap, ◌∙◌, subst, mod-lt, div-add-mod', zero-add, arith, ext_get_or}
use mathlib.Core.Path.{fun_ext}
use lib.Arith.{digits_div, digits_mod}
use Rattle.lists.proofs.Tabulate.{length-tabulate, get_d_tabulate}
use Rattle.words.specs.Words.{word}
use Rattle.rounds.specs.Passes.{cell, lines, column}

module _ (u w : ℕ) where
  by_digits :
      (P : ℕ → Type 0) → 0 < u → 0 < w
      → ((b k p : ℕ) → k < u → p < w → P ((b * u + k) * w + p)) → (q : ℕ) → P q
  by_digits P zu zw h q =
      subst P (ap (λ (i : ℕ). i * w + q % w) (div-add-mod' (q / w) u) ∙ div-add-mod' q w)
      (h (q / w / u) (q / w % u) (q % w) (mod-lt (q / w) zu) (mod-lt q zw))

  module _ (E : (ℕ → ℤ) → ℕ → ℤ) (l : List ℕ) where
    pub length-lines : length (lines u w E l) ≡ length l
    unfolding lines
    length-lines = length-tabulate (λ (q : ℕ). word (E (λ (t : ℕ). cell l (q - q / w % u * w + t * w)) (q / w % u))) 0 (length l)

    pub get_or-lines :
        (b k p : ℕ) → k < u → p < w → (b * u + k) * w + p < length l
        → get_or (lines u w E l) ((b * u + k) * w + p) 0 ≡ word (E (column u w l b p) k)
    unfolding lines column
    get_or-lines b k p hk hp h =
        get_d_tabulate (λ (q : ℕ). word (E (λ (t : ℕ). cell l (q - q / w % u * w + t * w)) (q / w % u))) 0 (length l) 0
        ((b * u + k) * w + p) h
        ∙ rw (zero-add ((b * u + k) * w + p), digits_div (b * u + k) hp, digits_mod b hk)
        (ap (λ (f : ℕ → ℤ). word (E f k)) (fun_ext λ t. ap (cell l) (omega arith)))

    pub lines_unique :
        (l' : List ℕ) → length l' ≡ length l
        → 0 < u → 0 < w
        → ((b k p : ℕ) → k < u → p < w → (b * u + k) * w + p < length l
        → get_or l' ((b * u + k) * w + p) 0 ≡ word (E (column u w l b p) k))
        → l' ≡ lines u w E l
    lines_unique l' e zu zw h =
        ext_get_or 0 l' (lines u w E l) (e ∙ sym length-lines)
        (by_digits (λ (q : ℕ). q < length l' → get_or l' q 0 ≡ get_or (lines u w E l) q 0) zu zw
        (λ b k p hk hp i.
        let j : (b * u + k) * w + p < length l = omega arith in
        h b k p hk hp j ∙ sym (get_or-lines b k p hk hp j)))
