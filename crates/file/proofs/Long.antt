-- Of a file longer than any that is accepted, the first bytes decide. They hold the whole head, so that conditions 1 to 5 are judged alike; and
-- where these pass, N is at most 1,024, so that neither length is that of the head and 9N.
use mathlib.Core.Bool.{true, false, and-eq-true_iff}
use mathlib.Core.List.{List, ◌++◌}
use mathlib.Core.Logic.{⊎_elim}
use mathlib.Core.Path.{◌≡◌, refl, sym, ◌∙◌, ap}
use Prim.Native.Nat.{ℕ, ◌+◌, ◌*◌, ◌≤◌, ◌<◌}
use native.Mathlib.Omega.{arith}
use lib.Dec.{leb}
use lib.ListN.{length, get_or, take, drop, length-append, length-drop, get_or-append}
use lib.Seq.{take-append-le, drop-append-le}
use borrow.Author.Tests.{le-ltb, ne_eqb, leb-true, not-false}
use Rattle.ranges.proofs.Search.{true_or_false}
use Rattle.sizes.specs.Sizes.{max_inputs, within}
use Rattle.words.specs.Bytes.{little}
use Rattle.fields.specs.File.{width_bytes, widths_from, sizes_of, head_of, step_count}
use Rattle.fields.proofs.Heads.{widths-range, head-most, head-short}
use Rattle.file.specs.Check.{max_steps, too_short, short_of_head, bad_count, bad_length, head_fault}
use Rattle.file.specs.Long.{longest_file, CutShort, LongFile}
use Rattle.file.proofs.Number.{head_passed, number-head, refused-head}

module _ (start rest : List ℕ) (long : longest_file < length start) where
  abbrev whole : List ℕ
  whole = start ++ rest

  entry : (i : ℕ) → i < 9 * max_steps → get_or whole i 0 ≡ get_or start i 0
  entry i h = get_or-append start rest 0 i (omega arith)

  same-widths : (n : ℕ) → n ≤ max_inputs → take n (drop widths_from whole) ≡ take n (drop widths_from start)
  same-widths n l =
      ap (take n) (drop-append-le widths_from start rest (omega arith))
      ∙ take-append-le n (drop widths_from start) rest (simp length-drop (omega arith))

  same-sizes : sizes_of whole ≡ sizes_of start
  unfolding sizes_of
  same-sizes = rw (entry 0 (omega arith), entry 1 (omega arith), same-widths (width_bytes (get_or start 1 0)) (widths-range (get_or start 1 0)).1)

  same_count : step_count whole ≡ step_count start
  unfolding step_count little
  same_count = rw (entry 2 (omega arith), entry 3 (omega arith))

  few-steps : (s : List ℕ) → within 1 max_steps (step_count s) ≡ true → step_count s ≤ max_steps
  few-steps s e = leb-true _ _ ((and-eq-true_iff (leb 1 (step_count s)) (leb (step_count s) max_steps)).0 e).1

  wrong-length : (s : List ℕ) → longest_file < length s → bad_count s ≡ false → bad_length s ≡ true
  unfolding bad_count bad_length
  wrong-length s l e =
      let few = few-steps s (not-false (within 1 max_steps (step_count s)) e) in
      rw (ne_eqb (length s) (head_of s + 9 * step_count s) (λ q. omega (arith, head-most s)))

  whole_long : longest_file < length whole
  whole_long = simp length-append (omega arith)

  same_bad_count : bad_count whole ≡ bad_count start
  unfolding bad_count
  same_bad_count = rw same_count

  has-head : (s : List ℕ) → longest_file < length s → head_of s ≤ length s
  has-head s l = omega (arith, head-most s)

  long-enough : (s : List ℕ) → longest_file < length s → (too_short s ≡ false) × (short_of_head s ≡ false)
  unfolding too_short short_of_head
  long-enough s l = (le-ltb _ _ (head-short s (has-head s l)), le-ltb _ _ (has-head s l))

  same_head : head_fault whole ≡ head_fault start
  unfolding head_fault
  same_head =
      ⊎_elim
      (λ (t : bad_count start ≡ true). rw (
        (long-enough whole whole_long).0,
        (long-enough start long).0,
        (long-enough whole whole_long).1,
        (long-enough start long).1,
        same-sizes,
        same_bad_count,
        t,
      ))
      (λ (f : bad_count start ≡ false). rw (
        (long-enough whole whole_long).0,
        (long-enough start long).0,
        (long-enough whole whole_long).1,
        (long-enough start long).1,
        same-sizes,
        same_bad_count,
        f,
        wrong-length whole whole_long (same_bad_count ∙ f),
        wrong-length start long f,
      ))
      (true_or_false (bad_count start))

  head-refuses : ¬ (head_fault start ≡ 0)
  head-refuses e =
      let p = head_passed start e in
      omega (arith, p.size, few-steps start p.count, head-most start)

  cut_short : CutShort start rest
  cut_short =
      let a = number-head start head-refuses in
      let b = number-head whole (λ e. head-refuses (sym same_head ∙ e)) in
      record {
        number = b ∙ same_head ∙ sym a;
        refusal = λ w. sym (refused-head whole w {x = head_fault whole} refl (λ e. head-refuses (sym same_head ∙ e)))
            ∙ refused-head start w {x = head_fault whole} same_head (λ e. head-refuses (sym same_head ∙ e));
        refused = λ e. head-refuses (sym a ∙ e);
      }

pub long_file : LongFile
long_file = cut_short
