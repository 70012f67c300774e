-- The width byte of an input (document 02, T-01).
--   format_of b    the format that the byte b gives: its top bit, which weighs 128, is the mark of a signed input, and the low seven bits, which are
--                 the rest, are the word length
--   byte_of f      the byte of a format
--   BytesFormats  the two undo one another. Proved in proofs/Bytes:
--     read        the format of a byte has that byte
--     written     and the byte of a format gives that format, where the word length has seven bits
--     marked      the input is signed exactly where the byte is 128 or more, whatever its word length
--     low         the word length of a byte is its remainder by 128
use Rattle.std.specs.Prelude.{true, cond, ◌↔◌, ◌≡◌, ℕ, ◌+◌, ◌-◌, ◌%◌, ◌≤◌, ◌<◌, leb}
use Rattle.formats.specs.declared.Format.{Format}

unfoldable pub format_of : ℕ → Format
format_of b = record { signed = leb 128 b; length = cond (leb 128 b) (b - 128) b }

unfoldable pub byte_of : Format → ℕ
byte_of f = cond f.signed 128 0 + f.length

pub record BytesFormats : Type 0 where
  pub read : (b : ℕ) → byte_of (format_of b) ≡ b
  pub written : (f : Format) → f.length < 128 → format_of (byte_of f) ≡ f
  pub marked : (b : ℕ) → ((format_of b).signed ≡ true) ↔ (128 ≤ b)
  pub low : (b : ℕ) → b < 256 → (format_of b).length ≡ b % 128
