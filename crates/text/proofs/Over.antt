-- Bytes written one after the other are written as one list, and no length changes. By the laws of lib.Seq. Assumes nothing.
use mathlib.Core.Path.{◌≡◌, refl, sym, ◌∙◌, ap}
use mathlib.Core.List.{List, [], ◌∷◌, ◌++◌, append_assoc, append-nil}
use Prim.Native.Nat.{ℕ, ◌+◌, ◌<◌, ◌≤◌}
use native.Mathlib.Nat.{add_assoc, add-zero, zero-add}
use native.Mathlib.Numerals.{add-one}
use native.Mathlib.Omega.{arith}
use lib.ListN.{length, take, drop, set, length-append, length-drop, take-append-drop}
use lib.Seq.{length-take-le, take_at, drop_at, drop-drop, set_split, append_snoc}
use Rattle.text.specs.Writing.{over, RoomFor, Put, TextWritten}

length_over : (t : List ℕ) (at : ℕ) (x : List ℕ) → RoomFor x t at → length (over t at x) ≡ length t
unfolding over
length_over t at x h = simp (length-append, length-take-le at t (omega arith), length-drop) (omega arith)

over-over :
    (t : List ℕ) (at : ℕ) (x y : List ℕ) → at ≤ length t → over (over t at x) (at + length x) y ≡ over t at (x ++ y)
unfolding over
over-over t at x y h =
    let n = at + length x in
    let rest = drop n t in
    let front : length (take at t ++ x) ≡ n = simp (length-append, length-take-le at t h) in
    let low = take_at (take at t ++ x) rest n front in
    let high =
    sym (drop-drop (length y) n (take at t ++ x ++ rest))
    ∙ ap (drop (length y)) (drop_at (take at t ++ x) rest n front)
    ∙ drop-drop (length y) n t in
    rw (low, high) (simp (append_assoc, length-append, add_assoc))

-- room for two lists of bytes is room for the first, and then for the second
pub room-first : (x y : List ℕ) {t : List ℕ} {at : ℕ} → RoomFor (x ++ y) t at → RoomFor x t at
room-first x y h = record { fits = omega (arith, length-append x y, h.fits) }

pub room-second : {x y t t₁ : List ℕ} {at r : ℕ} → RoomFor (x ++ y) t at → Put x t t₁ at r → RoomFor y t₁ r
room-second {x} {y} {t} {t₁} {at} h p =
    record { fits = omega (arith, length-append x y, h.fits, p.next, ap length p.text, length_over t at x (room-first x y h)) }

pub put-start : (t : List ℕ) (at : ℕ) → Put [] t t at at
unfolding over
put-start t at = record { next = omega arith; text = rw (add-zero, append-nil) (sym (take-append-drop at t)) }

pub put_then :
    {x y t t₁ t₂ : List ℕ} {at r₁ r₂ : ℕ} → RoomFor (x ++ y) t at → Put x t t₁ at r₁ → Put y t₁ t₂ r₁ r₂ → Put (x ++ y) t t₂ at r₂
put_then {x} {y} {t} {t₁} {t₂} {at} {r₁} {r₂} h p q =
    record {
      next = simp length-append (omega (arith, p.next, q.next));
      text = q.text ∙ rw (p.text, p.next) (over-over t at x y (omega (arith, h.fits)));
    }

pub put_one : (t : List ℕ) (at b : ℕ) → at < length t → Put (b ∷ []) t (set t at b) at (at + 1)
unfolding over
put_one t at b h = record { next = refl; text = rw (add-one at, append_snoc) (set_split t at b h) }

-- what is put at index 0 is at the front
pub at_front : {t before after : List ℕ} {r : ℕ} → Put t before after 0 r → TextWritten t before after r
unfolding over
at_front {t} p = record { count = p.next ∙ zero-add (length t); text = rw zero-add at p.text }
