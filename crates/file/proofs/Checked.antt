-- What checking tells of a file, as lemmas that a caller's check applies by itself: `using(file::proofs::Checked::checked)`. Assumes nothing.
use mathlib.Core.Bool.{true, false}
use mathlib.Core.List.{List}
use mathlib.Core.Path.{◌≡◌, sym, ◌∙◌}
use Prim.Native.Nat.{ℕ, ◌+◌, ◌*◌, ◌≤◌}
use lib.ListN.{length}
use Rattle.std.specs.Prelude.{Result, Ok, is_err}
use Rattle.sizes.specs.Answered.{answered}
use Rattle.sizes.specs.Sizes.{Ruled}
use Rattle.sizes.specs.declared.Refusal.{Refusal}
use Rattle.sizes.proofs.Answered.{ok-number, is_err-number, not_err-number}
use Rattle.fields.specs.File.{short_head, long_head, sizes_of, head_of, step_count}
use Rattle.fields.proofs.Heads.{head-short, head-most}
use Rattle.file.specs.Check.{file_number, refusal_of}
use Rattle.file.proofs.Accepted.{accepted}
use Rattle.file.proofs.Number.{refusal-number}
use Rattle.file.proofs.Sound.{file-ruled}

module _ (s : List ℕ) where
  pub checked_number : Ok tt ≡ answered (refusal_of 1 s) (tt {0}) → file_number s ≡ 0
  checked_number e = sym (refusal-number s 1) ∙ ok-number (refusal_of 1 s) tt tt e

  -- of an answer that is only asked which it is
  module _ (a : Result (Unit {0}) Refusal) (e : a ≡ answered (refusal_of 1 s) (tt {0})) where
    pub refused_number : is_err a ≡ true → file_number s ≡ 0 → ⊥
    refused_number t z = is_err-number (refusal_of 1 s) tt a e (sym t) (refusal-number s 1 ∙ z)

    pub not_refused : is_err a ≡ false → file_number s ≡ 0
    not_refused t = sym (refusal-number s 1) ∙ not_err-number (refusal_of 1 s) tt a e (sym t)

  pub short_enough : head_of s ≤ long_head
  short_enough = head-most s

  module _ (e : file_number s ≡ 0) where
    pub checked_length : head_of s ≤ length s
    checked_length = (accepted s e).long

    pub checked_head : short_head ≤ length s
    checked_head = head-short s checked_length

    pub checked_size : length s ≡ head_of s + 9 * step_count s
    checked_size = (accepted s e).size

    pub checked_sizes : Ruled (sizes_of s)
    checked_sizes = file-ruled s (accepted s e)

pub ruleset checked = (short_enough, checked_number, refused_number, not_refused, checked_length, checked_head, checked_size, checked_sizes)
