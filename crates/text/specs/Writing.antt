-- Writing bytes into a slice that is lent for a text.
--   over before at bytes           the slice with the bytes written from the index at on
--   RoomFor bytes text at          there is room for the bytes from there on
--   Put bytes before after at r    the bytes were written from the index at on, and r is the index after them
--   TextWritten t before after r   the text t was written at the front, and r is the count of its bytes
use Rattle.std.specs.Prelude.{◌≡◌, List, ◌++◌, ℕ, ◌+◌, ◌≤◌, length, take, drop}

unfoldable pub over : List ℕ → ℕ → List ℕ → List ℕ
over before at bytes = take at before ++ bytes ++ drop (at + length bytes) before

pub record RoomFor (bytes text : List ℕ) (at : ℕ) : Type 0 where
  pub fits : at + length bytes ≤ length text

pub record Put (bytes before after : List ℕ) (at r : ℕ) : Type 0 where
  pub next : r ≡ at + length bytes
  pub text : after ≡ over before at bytes

pub record TextWritten (t before after : List ℕ) (r : ℕ) : Type 0 where
  -- the answer is the count of the text's bytes
  pub count : r ≡ length t
  -- the text stands at the front, and the bytes past it are untouched
  pub text : after ≡ t ++ drop (length t) before
