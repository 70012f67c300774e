-- A width byte and its format: 128 or more is the mark, and what is left of it is the word length.
-- Assumes nothing.
use mathlib.Core.Bool.{Bool, true, false, cond}
use mathlib.Core.Logic.{◌↔◌}
use mathlib.Core.Path.{◌≡◌}
use Prim.Native.Nat.{ℕ, ◌+◌, ◌-◌, ◌%◌, ◌≤◌, ◌<◌}
use native.Mathlib.Decide.{dec_lt}
use native.Mathlib.Omega.{arith}
use borrow.Author.Tests.{leb-true, le-leb, lt-leb}
use Rattle.formats.specs.Bytes.{format_of, byte_of, BytesFormats}
use Rattle.formats.specs.declared.Format.{Format}

read : (b : ℕ) → byte_of (format_of b) ≡ b
unfolding format_of byte_of
read b = elim (dec_lt b 128) [ yes l ↦ rw (lt-leb 128 b l) (omega arith) | no l ↦ rw (le-leb 128 b (omega arith)) (omega arith) ]

-- the byte of a mark and a word length
format_byte : (s : Bool) (n : ℕ) → n < 128 → format_of (cond s 128 0 + n) ≡ record { signed = s; length = n }
unfolding format_of
format_byte true n h =
    let e : 128 + n - 128 ≡ n = omega arith in
    rw (le-leb 128 (128 + n) (omega arith), e)
format_byte false n h =
    let e : 0 + n ≡ n = omega arith in
    rw (lt-leb 128 (0 + n) (omega arith), e)

written : (f : Format) → f.length < 128 → format_of (byte_of f) ≡ f
unfolding byte_of
written f h = format_byte f.signed f.length h

marked : (b : ℕ) → ((format_of b).signed ≡ true) ↔ (128 ≤ b)
unfolding format_of
marked b = (leb-true 128 b, le-leb 128 b)

pub low : (b : ℕ) → b < 256 → (format_of b).length ≡ b % 128
unfolding format_of
low b h = elim (dec_lt b 128) [ yes l ↦ rw (lt-leb 128 b l) (omega arith) | no l ↦ rw (le-leb 128 b (omega arith)) (omega arith) ]

-- a word length leaves no room above the byte
pub format_most : (b : ℕ) → b ≤ (format_of b).length + 128
unfolding format_of
format_most b = elim (dec_lt b 128) [ yes l ↦ rw (lt-leb 128 b l) (omega arith) | no l ↦ rw (le-leb 128 b (omega arith)) (omega arith) ]

pub bytes_formats : BytesFormats
bytes_formats = record { read = read; written = written; marked = marked; low = low }
