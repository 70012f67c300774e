-- The lengths of heads, by the test of the count of inputs; and the word lengths that a head gives. Assumes nothing.
use mathlib.Core.List.{List}
use mathlib.Core.Path.{◌≡◌, ap}
use Prim.Native.Nat.{ℕ, ◌+◌, ◌≤◌, ◌<◌}
use native.Mathlib.Decide.{dec_lt}
use native.Mathlib.Omega.{arith}
use lib.ListN.{length, get_or, take, drop, length-take}
use borrow.Author.Tests.{le-leb, lt-leb}
use Rattle.sizes.specs.Sizes.{max_inputs}
use Rattle.sizes.proofs.Padded.{length-padded}
use Rattle.fields.specs.File.{short_inputs, width_bytes, widths_from, short_head, long_head, HeadLengths, sizes_of, head_of}

pub widths-few : (d : ℕ) → d ≤ short_inputs → width_bytes d ≡ short_inputs
unfolding width_bytes
widths-few d l = rw (le-leb d short_inputs l)

pub widths_many : (d : ℕ) → short_inputs < d → width_bytes d ≡ max_inputs
unfolding width_bytes
widths_many d l = rw (lt-leb d short_inputs l)

pub head_lengths : HeadLengths
head_lengths = record { short = λ d l. ap (λ n. widths_from + n) (widths-few d l); long = λ d l. ap (λ n. widths_from + n) (widths_many d l) }

-- a head has a word length for each input that its file may have, and no more than the longest
pub widths-range : (d : ℕ) → (short_inputs ≤ width_bytes d) × (width_bytes d ≤ max_inputs)
widths-range d =
    elim (dec_lt short_inputs d) [
      | yes l ↦ (omega (arith, widths_many d l), omega (arith, widths_many d l))
      | no n ↦ (omega (arith, widths-few d (omega arith)), omega (arith, widths-few d (omega arith)))
    ]

-- no head is shorter than a short one, and none longer than a long one
pub head-least : (s : List ℕ) → short_head ≤ head_of s
head-least s = omega (arith, widths-range (sizes_of s).d)

pub head-most : (s : List ℕ) → head_of s ≤ long_head
head-most s = omega (arith, widths-range (sizes_of s).d)

-- a file that has its own head has a short one
pub head-short : (s : List ℕ) → head_of s ≤ length s → short_head ≤ length s
head-short s l = omega (arith, head-least s)

pub length-widths : (s : List ℕ) → length (sizes_of s).widths ≡ max_inputs
unfolding sizes_of
length-widths s = length-padded (take (width_bytes (get_or s 1 0)) (drop widths_from s)) (simp length-take (omega (arith, widths-range (get_or s 1 0))))
