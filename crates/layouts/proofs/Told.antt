-- What the tests of the layouts tell, as equations and orders of numbers; and, from these, that they hold. By the laws of tests. Assumes
-- nothing.
use mathlib.Core.Bool.{true, ◌&&◌, and-eq-true_iff}
use mathlib.Core.List.{List}
use mathlib.Core.Path.{◌≡◌}
use Prim.Native.Nat.{ℕ, ◌≤◌}
use native.Mathlib.Omega.{arith}
use lib.Dec.{leb, eqb}
use lib.ListN.{length}
use borrow.Author.Tests.{ltb-true, lt-ltb, leb-true, le-leb, eqb-true, eq-eqb}
use Rattle.ranges.proofs.Search.{every-at, every_of}
use Rattle.layouts.specs.AnswerWords.{answer_fits}
use Rattle.layouts.specs.Lengths.{word_at, sizes_length, at_mark, session_length, at_kind, answer_length}
use Rattle.layouts.specs.SessionWords.{session_fits}
use Rattle.layouts.specs.SizeWords.{fits_byte, size_bytes, sizes_fit, SizeBytes}

module _ (w : List ℕ) where
  pub bytes-told : sizes_length ≤ length w → size_bytes w ≡ true → SizeBytes w
  unfolding size_bytes fits_byte
  bytes-told h e =
      record { long = h; small = λ i l. ltb-true _ _ (every-at (fits_byte w) 0 sizes_length i e (omega arith) (omega arith)) }

  bytes_fit : SizeBytes w → size_bytes w ≡ true
  unfolding size_bytes fits_byte
  bytes_fit b = every_of (fits_byte w) 0 sizes_length (λ i l h. lt-ltb _ _ (b.small i (omega arith)))

  pub record SizesTold : Type 0 where
    pub long : length w ≡ sizes_length
    pub bytes : SizeBytes w

  pub sizes-told : sizes_fit w ≡ true → SizesTold
  unfolding sizes_fit
  sizes-told e =
      let p = (and-eq-true_iff (eqb (length w) sizes_length) (size_bytes w)).0 e in
      let l = eqb-true (length w) sizes_length p.0 in
      record { long = l; bytes = bytes-told (omega arith) p.1 }

  pub sizes-fit : SizesTold → sizes_fit w ≡ true
  unfolding sizes_fit
  sizes-fit t = rw (eq-eqb (length w) sizes_length t.long) (bytes_fit t.bytes)

  pub record SessionTold : Type 0 where
    pub long : length w ≡ session_length
    pub bytes : SizeBytes w
    pub mark : word_at w at_mark ≤ 2

  pub session-told : session_fits w ≡ true → SessionTold
  unfolding session_fits
  session-told e =
      let p = (and-eq-true_iff (eqb (length w) session_length && size_bytes w) (leb (word_at w at_mark) 2)).0 e in
      let q = (and-eq-true_iff (eqb (length w) session_length) (size_bytes w)).0 p.0 in
      let l = eqb-true (length w) session_length q.0 in
      record { long = l; bytes = bytes-told (omega arith) q.1; mark = leb-true _ _ p.1 }

  pub session-fits : SessionTold → session_fits w ≡ true
  unfolding session_fits
  session-fits t = rw (eq-eqb (length w) session_length t.long, bytes_fit t.bytes) (le-leb _ _ t.mark)

  pub record AnswerTold : Type 0 where
    pub long : length w ≡ answer_length
    pub kind : word_at w at_kind ≤ 3

  pub answer-told : answer_fits w ≡ true → AnswerTold
  unfolding answer_fits
  answer-told e =
      let p = (and-eq-true_iff (eqb (length w) answer_length) (leb (word_at w at_kind) 3)).0 e in
      record { long = eqb-true (length w) answer_length p.0; kind = leb-true _ _ p.1 }

  pub answer-fits : AnswerTold → answer_fits w ≡ true
  unfolding answer_fits
  answer-fits t = rw (eq-eqb (length w) answer_length t.long) (le-leb _ _ t.kind)
