-- From one block to all of an axis: a list of whole blocks is passed over block by block, since a line stays within its block.
use Rattle.std.proofs.Common.{◌≡◌, ℕ, ◌+◌, ◌-◌, ◌*◌, ◌/◌, ◌%◌, ◌^◌, ◌<◌, ◌≤◌, List, ◌++◌, length, get_or, take, drop, ℤ, pos, sym, refl, ap, ◌∙◌, subst, ap₂, append_assoc, append-nil, mul-le-mul_right, div-add-mod', arith, length-append, drop_of_length-le, length-take-le, take_all, drop-drop, take_at, get_or-append-add, take-add, drop_at, pow_pos}
use mathlib.Core.Path.{fun_ext}
use native.Mathlib.Decide.{dec_lt}
use lib.Arith.{digits_lt}
use lib.ListN.{get_or-append}
use Rattle.lists.specs.Lists.{tabulate}
use Rattle.differences.proofs.Neighbours.{combined-remainder}
use Rattle.words.specs.Words.{word}
use Rattle.rounds.specs.Passes.{lines, column, whole, passed}
use Rattle.rounds.proofs.Lines.{length-lines, get_or-lines, lines_unique}

-- the k-fold combination depends on the first k + 1 entries of the line, as words
pub whole_word :
    (s : ℤ) (k : ℕ) (f g : ℕ → ℤ) → ((t : ℕ) → t ≤ k → word (f t) ≡ word (g t)) → word (whole s f k) ≡ word (whole s g k)
whole_word = combined-remainder (2 ^ 64) (pow_pos 64)

module _ (s : ℤ) (u w : ℕ) (zu : 0 < u) (zw : 0 < w) where
  passed-append :
      (n : ℕ) (a c : List ℕ) → length a ≡ n * (u * w) → passed s u w (a ++ c) ≡ passed s u w a ++ passed s u w c
  unfolding passed column
  passed-append n a c e =
      sym
      (lines_unique u w (whole s) (a ++ c) (lines u w (whole s) a ++ lines u w (whole s) c)
      (simp (length-append, length-lines))
      zu zw (λ b k p hk hp i. entry b k p hk hp i (dec_lt b n)))
    where
      -- in a block of a
      near :
          (b k p : ℕ) → k < u → p < w → b < n
          → get_or (lines u w (whole s) a ++ lines u w (whole s) c) ((b * u + k) * w + p) 0
          ≡ word (whole s (column u w (a ++ c) b p) k)
      near b k p hk hp h =
          let i : b * (u * w) + (k * w + p) < n * (u * w) = digits_lt h (digits_lt hk hp) in
          get_or-append (lines u w (whole s) a) (lines u w (whole s) c) 0 ((b * u + k) * w + p)
          (omega (arith, length-lines u w (whole s) a))
          ∙ get_or-lines u w (whole s) a b k p hk hp (omega arith)
          ∙ whole_word s k (column u w a b p) (column u w (a ++ c) b p)
          (λ t j.
          ap (λ (y : ℕ). word (pos y))
          (sym (get_or-append a c 0 ((b * u + t) * w + p) (omega (arith, mul-le-mul_right w j)))))

      -- in a block of c
      far :
          (b k p : ℕ) → k < u → p < w → ((n + b) * u + k) * w + p < length (a ++ c)
          → get_or (lines u w (whole s) a ++ lines u w (whole s) c) (((n + b) * u + k) * w + p) 0
          ≡ word (whole s (column u w (a ++ c) (n + b) p) k)
      far b k p hk hp i =
          let place : ((n + b) * u + k) * w + p ≡ length (lines u w (whole s) a) + ((b * u + k) * w + p) =
          omega (arith, length-lines u w (whole s) a) in
          ap (λ (q : ℕ). get_or (lines u w (whole s) a ++ lines u w (whole s) c) q 0) place
          ∙ get_or-append-add (lines u w (whole s) a) (lines u w (whole s) c) ((b * u + k) * w + p) 0
          ∙ get_or-lines u w (whole s) c b k p hk hp (omega (arith, length-append a c))
          ∙ ap (λ (f : ℕ → ℤ). word (whole s f k))
          (fun_ext λ t.
          ap pos
          (sym
          (ap (λ (q : ℕ). get_or (a ++ c) q 0) (within t)
          ∙ get_or-append-add a c ((b * u + t) * w + p) 0)))
        where
          within : (t : ℕ) → ((n + b) * u + t) * w + p ≡ length a + ((b * u + t) * w + p)
          within t = omega arith

      entry :
          (b k p : ℕ) → k < u → p < w → (b * u + k) * w + p < length (a ++ c) → Dec (b < n)
          → get_or (lines u w (whole s) a ++ lines u w (whole s) c) ((b * u + k) * w + p) 0
          ≡ word (whole s (column u w (a ++ c) b p) k)
      entry b k p hk hp i (yes h) = near b k p hk hp h
      entry b k p hk hp i (no h) =
          subst
          (λ (j : ℕ).
          (j * u + k) * w + p < length (a ++ c)
          → get_or (lines u w (whole s) a ++ lines u w (whole s) c) ((j * u + k) * w + p) 0
          ≡ word (whole s (column u w (a ++ c) j p) k))
          (omega arith) (far (b - n) k p hk hp) i

  -- a loop over the blocks of a list: those before `at` are done
  pub pass_start : (l : List ℕ) → l ≡ passed s u w (take 0 l) ++ drop 0 l
  unfolding passed lines tabulate
  pass_start l = refl

  pub pass_step :
      (l : List ℕ) (at k : ℕ) (cells ys : List ℕ) → at % (u * w) ≡ 0 → at + u * w ≤ length l → k ≡ u * w
      → cells ≡ passed s u w (take at l) ++ drop at l → ys ≡ passed s u w (take k (drop at cells))
      → take at cells ++ (ys ++ drop k (drop at cells)) ≡ passed s u w (take (at + u * w) l) ++ drop (at + u * w) l
  unfolding passed
  pass_step l at k cells ys e h m c y =
      let done = passed s u w (take at l) in
      let long : length done ≡ at = length-lines u w (whole s) (take at l) ∙ length-take-le at l (omega arith) in
      let before : take at cells ≡ done = ap (take at) c ∙ take_at done (drop at l) at long in
      let behind : drop at cells ≡ drop at l = ap (drop at) c ∙ drop_at done (drop at l) at long in
      ap₂ (λ (a b : List ℕ). a ++ (b ++ drop k (drop at cells))) before y
      ∙ rw (behind, m)
      (sym (append_assoc done (passed s u w (take (u * w) (drop at l))) (drop (u * w) (drop at l)))
      ∙ ap₂ ◌++◌
      (sym (passed-append (at / (u * w)) (take at l) (take (u * w) (drop at l)) (length-take-le at l (omega arith) ∙ whole_blocks))
      ∙ ap (passed s u w) (sym (take-add at (u * w) l)))
      (drop-drop (u * w) at l))
    where
      whole_blocks : at ≡ at / (u * w) * (u * w)
      whole_blocks = omega (arith, div-add-mod' at (u * w))

  pub pass_end : (l : List ℕ) (at : ℕ) → length l ≤ at → passed s u w (take at l) ++ drop at l ≡ passed s u w l
  pass_end l at h =
      ap₂ (λ (a b : List ℕ). passed s u w a ++ b) (take_all at l h) (drop_of_length-le l h) ∙ append-nil (passed s u w l)
