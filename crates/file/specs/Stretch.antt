-- The operation stretch that a file hands out (document 01, 'The datapath file').
--   Stretch file r   r is the operation stretch of file: its bytes, and, of an accepted file, its address, which is that of
--                    the byte after the head in the file's own memory. An address is a region of memory and an offset in bytes
use Rattle.std.specs.Prelude.{List, ◌≡◌, ℕ, ◌+◌}
use Rattle.std.specs.Borrow.{Bor}
use Rattle.fields.specs.File.{head_of}
use Rattle.file.specs.Check.{file_number, stretch_of}

pub record Stretch (file r : Bor (List ℕ)) : Type 0 where
  pub contents : r.now ≡ stretch_of file.now
  pub address : file_number file.now ≡ 0 → r.ref_ptr ≡ (file.ref_ptr.0, head_of file.now + file.ref_ptr.1)
