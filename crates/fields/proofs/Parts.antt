-- Each field is read from its own part of a file: what is read at an offset is read from the start of the list without the bytes before it.
-- Assumes nothing.
use mathlib.Core.List.{List, ◌++◌}
use mathlib.Core.Path.{◌≡◌, refl, sym, ◌∙◌, ap, ap₂}
use Prim.Native.Nat.{ℕ, zero, suc, ◌+◌, ◌*◌, ◌≤◌, ◌<◌}
use native.Mathlib.Omega.{arith}
use lib.ListN.{length, get_or, take, drop, length-take, get_or-append, get_or-eq_default}
use lib.Seq.{get_or-take, get_or-drop, take-append_seam, drop-append_seam, drop-append-add}
use Rattle.sizes.proofs.Padded.{padded-entry}
use Rattle.words.specs.Bytes.{little}
use Rattle.fields.specs.File.{width_bytes, widths_from, sizes_of, head_of, step_count, operation, argument, operations_of, Parted, FieldsInOrder}

-- a number is read after i bytes as from the list without these
little-drop : (n i : ℕ) (s : List ℕ) (j : ℕ) → little n (drop i s) j ≡ little n s (i + j)
unfolding little
little-drop zero i s j = refl
little-drop (suc n) i s j =
    let e : i + (j + 1) ≡ i + j + 1 = omega arith in
    ap₂ (λ a b. a + 256 * b) (get_or-drop i s j 0) (little-drop n i s (j + 1) ∙ ap (little n s) e)

output : (s : List ℕ) → (sizes_of s).m ≡ get_or s 0 0
unfolding sizes_of
output s = refl

inputs : (s : List ℕ) → (sizes_of s).d ≡ get_or s 1 0
unfolding sizes_of
inputs s = refl

count : (s : List ℕ) → step_count s ≡ get_or s 2 0 + 256 * get_or s 3 0
unfolding step_count little
count s = omega arith

widths : (s : List ℕ) (i : ℕ) → widths_from + i < head_of s → get_or (sizes_of s).widths i 0 ≡ get_or s (widths_from + i) 0
unfolding sizes_of
widths s i l =
    let n = width_bytes (get_or s 1 0) in
    padded-entry (take n (drop widths_from s)) i ∙ get_or-take n (drop widths_from s) i 0 (omega arith) ∙ get_or-drop widths_from s i 0

unused : (s : List ℕ) (i : ℕ) → head_of s ≤ widths_from + i → get_or (sizes_of s).widths i 0 ≡ 0
unfolding sizes_of
unused s i l =
    let n = width_bytes (get_or s 1 0) in
    padded-entry (take n (drop widths_from s)) i ∙ get_or-eq_default (take n (drop widths_from s)) 0 (rw length-take (omega arith))

module _ (s head ops args : List ℕ) (p : Parted s head ops args) where
  -- what stands after the head
  after-head : drop (head_of s) s ≡ ops ++ args
  after-head = ap₂ drop (sym p.headed) p.whole ∙ drop-append_seam head (ops ++ args)

  after-operations : drop (head_of s + step_count s) s ≡ args
  after-operations =
      ap₂ (λ h n. drop (h + n) s) (sym p.headed) (sym p.counted)
      ∙ ap (drop (length head + length ops)) p.whole
      ∙ drop-append-add head (ops ++ args) (length ops)
      ∙ drop-append_seam ops args

  operations : operations_of s ≡ ops
  unfolding operations_of
  operations = ap₂ take (sym p.counted) after-head ∙ take-append_seam ops args

  operation-at : (k : ℕ) → k < step_count s → operation s k ≡ get_or ops k 0
  unfolding operation
  operation-at k l =
      sym (get_or-drop (head_of s) s k 0)
      ∙ ap (λ bytes. get_or bytes k 0) after-head
      ∙ get_or-append ops args 0 k (omega (arith, p.counted))

  argument-at : (k : ℕ) → argument s k ≡ little 8 args (8 * k)
  unfolding argument
  argument-at k =
      sym (little-drop 8 (head_of s + step_count s) s (8 * k)) ∙ ap (λ bytes. little 8 bytes (8 * k)) after-operations

pub fields_in_order : FieldsInOrder
fields_in_order =
    record {
      output = output;
      inputs = inputs;
      count = count;
      widths = widths;
      unused = unused;
      operations = operations;
      operation = operation-at;
      argument = argument-at;
    }
