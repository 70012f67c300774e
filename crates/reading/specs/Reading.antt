-- What becomes of what reading answers (docs/DECISIONS.md, 'The program').
--   none_or_two count         the program was started with no file names or with two: count is the words of its call, its own name among them
--   NoneOrTwo               it was, where its call had one word or three, and never else. Proved in proofs/Names
--   failed_read answer       a read failed: it answered a number below 0
--   no_bytes                 no bytes, since a read failed
--   after_read done answer room
--                           what one read comes to that answered so, where `done` bytes came before it and there was room for `room` bytes more
--   ReadsEnd done room      the same in numbers. Proved in proofs/Readings
--     failed      an answer below 0 ends reading with no bytes, whatever came before, as failed
--     ended       the answer 0 ends it with the bytes that came before, at the end of the file
--     more        a greater answer lets it go on, with so many bytes more
--     most        but no more than there was room for
--   ReadWhole buf n end     n bytes of the buffer are taken as the file's, after reading that ended so:
--     counted     they stand at the start of the buffer
--     unreadable  where a read failed, there are none, whatever came before
--     full        where the buffer is full, they are all of its bytes
-- What a read answers and brings is the system's. Of reading that ended at the end of the file, ReadWhole says only that its bytes stand at the
-- start of the buffer; what each answer is taken for is after_read's.
use Rattle.std.specs.Prelude.{◌≡◌, Bool, true, false, ◌||◌, List, ◌⊎◌, ◌↔◌, ℕ, zero, suc, ◌+◌, ◌≤◌, ◌<◌, min, eqb, ℤ, pos, negsuc, length, ◌<ℤ◌}
use Rattle.io.specs.Counts.{IsPrefixLen}
use Rattle.reading.specs.declared.AfterRead.{AfterRead}
use Rattle.reading.specs.declared.AfterRead.TheVariants.{Ended, More}
use Rattle.reading.specs.declared.Reading.{Reading}
use Rattle.reading.specs.declared.ReadEnd.{ReadEnd}
use Rattle.reading.specs.declared.ReadEnd.TheVariants.{Failed, AtEnd, Full}

unfoldable pub none_or_two : ℕ → Bool
none_or_two count = eqb count 1 || eqb count 3

abbrev pub NoneOrTwo : Type 0
NoneOrTwo = (count : ℕ) → (none_or_two count ≡ true) ↔ ((count ≡ 1) ⊎ (count ≡ 3))

abbrev pub failed_read : ℤ → Bool
failed_read (pos k) = false
failed_read (negsuc k) = true

-- what a file that can't be read gives
abbrev pub no_bytes : Reading
no_bytes = record { count = 0; end = Failed }

unfoldable pub after_read : ℕ → ℤ → ℕ → AfterRead
after_read done (negsuc k) room = Ended no_bytes
after_read done (pos zero) room = Ended (record { count = done; end = AtEnd })
after_read done (pos (suc k)) room = More (done + min (suc k) room)

pub record ReadsEnd (done room : ℕ) : Type 0 where
  pub failed : (answer : ℤ) → answer <ℤ pos 0 → after_read done answer room ≡ Ended (record { count = 0; end = Failed })
  pub ended : after_read done (pos 0) room ≡ Ended (record { count = done; end = AtEnd })
  pub more : (k : ℕ) → 0 < k → k ≤ room → after_read done (pos k) room ≡ More (done + k)
  pub most : (k : ℕ) → room < k → after_read done (pos k) room ≡ More (done + room)

pub record ReadWhole (buf : List ℕ) (n : ℕ) (end : ReadEnd) : Type 0 where
  pub counted : IsPrefixLen n buf
  pub unreadable : end ≡ Failed → n ≡ 0
  pub full : end ≡ Full → n ≡ length buf
