-- From one axis to the whole grid: a pass with the size of the later axes vs as stride, after the blocks of the grid vs are done, does those of
-- the grid u ∷ vs. That is how `mixed` is defined.
use mathlib.Core.Path.{◌≡◌, refl, sym, ◌∙◌, ap, fun_ext}
use mathlib.Core.List.{List, [], ◌∷◌}
use Prim.Native.Nat.{ℕ, ◌+◌, ◌*◌, ◌/◌, ◌^◌, ◌<◌}
use native.Mathlib.Nat.{mod-eq_of_lt, div-eq_of_lt, zero-add, zero-mul, mul-le-mul_right}
use native.Mathlib.Omega.{arith}
use lib.Arith.{digits_lt, digits_div, digits_mod}
use lib.IntN.{ℤ, pos}
use lib.ListN.{length, get_or, drop}
use lib.Seq.{get_or-drop}
use Rattle.places.specs.Places.{size, digits_at, place_of}
use Rattle.differences.specs.Neighbours.{mixed}
use Rattle.differences.specs.Table.{listed, given}
use Rattle.lists.proofs.Tabulate.{length-tabulate, get_d_tabulate, tabulate_unique}
use Rattle.words.specs.Words.{word}
use Rattle.words.proofs.Congruence.{word_pos}
use Rattle.rounds.specs.Passes.{column, whole, passed}
use Rattle.rounds.proofs.Lines.{lines_unique}
use Rattle.rounds.proofs.Rounds.{word-twice}
use Rattle.rounds.proofs.Blocks.{whole_word}
use Rattle.transform.specs.Transform.{blockwise}

-- entry p of block b
blockwise-at :
    (s : ℤ) (vs l : List ℕ) (b p : ℕ) → p < size vs → b * size vs + p < length l
    → get_or (blockwise s vs l) (b * size vs + p) 0
    ≡ word (mixed s (digits_at vs p) (given vs (drop (b * size vs) l)))
unfolding blockwise
blockwise-at s vs l b p h i =
    get_d_tabulate _ 0 (length l) 0 (b * size vs + p) i
    ∙ rw (zero-add (b * size vs + p), digits_div b h, digits_mod b h)

length-blockwise : (s : ℤ) (vs l : List ℕ) → length (blockwise s vs l) ≡ length l
unfolding blockwise
length-blockwise s vs l = length-tabulate _ 0 (length l)

pub blockwise-start : (s : ℤ) (l : List ℕ) → ((q : ℕ) → get_or l q 0 < 2 ^ 64) → blockwise s [] l ≡ l
unfolding blockwise mixed given place_of size digits_at
blockwise-start s l h =
    sym
    (tabulate_unique _ (length l) 0 l refl
    (λ i _.
    sym
    (ap (λ (n : ℕ). word (pos n))
    (get_or-drop (i / 1 * 1) l 0 0 ∙ ap (λ (q : ℕ). get_or l q 0) (omega arith))
    ∙ word_pos (get_or l i 0) (h i))))

pub blockwise-step :
    (s : ℤ) (u : ℕ) (vs l : List ℕ) → 0 < u → 0 < size vs
    → passed s u (size vs) (blockwise s vs l) ≡ blockwise s (u ∷ vs) l
unfolding passed column size digits_at mixed given place_of
blockwise-step s u vs l zu zw =
    sym
    (lines_unique u (size vs) (whole s) (blockwise s vs l) (blockwise s (u ∷ vs) l)
    (length-blockwise s (u ∷ vs) l ∙ sym (length-blockwise s vs l))
    zu zw
    (λ b k p hk hp i.
    let here : (b * u + k) * size vs + p < length l = omega (arith, length-blockwise s vs l) in
    let place : (b * u + k) * size vs + p ≡ b * (u * size vs) + (k * size vs + p) = omega arith in
    ap (λ (q : ℕ). get_or (blockwise s (u ∷ vs) l) q 0) place
    ∙ blockwise-at s (u ∷ vs) l b (k * size vs + p) (digits_lt hk hp) (omega arith)
    ∙ rw (digits_div k hp, digits_mod k hp)
    (whole_word s k
    (λ (t : ℕ). mixed s (digits_at vs p) (λ (ys : List ℕ). given (u ∷ vs) (drop (b * (u * size vs)) l) (t ∷ ys)))
    (column u (size vs) (blockwise s vs l) b p)
    (λ t j.
    ap word (layer b p t)
    ∙ sym
    (ap (λ (n : ℕ). word (pos n)) (blockwise-at s vs l (b * u + t) p hp (omega (arith, mul-le-mul_right (size vs) j)))
    ∙ word-twice (mixed s (digits_at vs p) (given vs (drop ((b * u + t) * size vs) l))))))))
  where
    layer :
        (b p t : ℕ)
        → mixed s (digits_at vs p) (λ (ys : List ℕ). given (u ∷ vs) (drop (b * (u * size vs)) l) (t ∷ ys))
        ≡ mixed s (digits_at vs p) (given vs (drop ((b * u + t) * size vs) l))
    layer b p t =
        ap (mixed s (digits_at vs p))
        (fun_ext λ ys.
        ap pos
        (get_or-drop (b * (u * size vs)) l (t * size vs + place_of vs ys) 0
        ∙ ap (λ (q : ℕ). get_or l q 0) (same (place_of vs ys))
        ∙ sym (get_or-drop ((b * u + t) * size vs) l (place_of vs ys) 0)))
      where
        same : (i : ℕ) → b * (u * size vs) + (t * size vs + i) ≡ (b * u + t) * size vs + i
        same i = omega arith

pub blockwise_end :
    (s : ℤ) (us l : List ℕ) → length l ≡ size us
    → blockwise s us l ≡ listed us (λ (x : List ℕ). word (mixed s x (given us l)))
unfolding blockwise
blockwise_end s us l e =
    tabulate_unique (λ (p : ℕ). word (mixed s (digits_at us p) (given us l))) (size us) 0 (blockwise s us l)
    (length-blockwise s us l ∙ e)
    (λ p h.
    get_d_tabulate _ 0 (length l) 0 p (omega arith)
    ∙ rw (zero-add p, mod-eq_of_lt h, div-eq_of_lt h, zero-mul (size us)))
