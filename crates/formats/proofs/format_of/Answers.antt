-- `formats::format_of` meets its contract: the shift by 7 is the quotient by 128, which is 1 from 128 on, and the mask leaves the remainder.
-- Assumes nothing.
use mathlib.Core.Path.{◌≡◌}
use Prim.Native.Nat.{ℕ, ◌-◌, ◌/◌, ◌%◌, ◌^◌, ◌<◌}
use native.Mathlib.Decide.{dec_lt}
use native.Mathlib.Omega.{arith}
use borrow.Author.Tests.{le-leb, lt-leb, eq-eqb, ne_eqb}
use lib.Bits.{and_mask}
use lib.Dec.{eqb}
use Rattle.formats.specs.Bytes.{format_of}
use Rattle.formats.proofs.format_of.Goals as goal

parted : (b : ℕ) → b < 2 ^ 8 → record { signed = eqb (b / 128) 1; length = b % 128 } ≡ format_of b
unfolding format_of
parted b h =
    elim (dec_lt b 128) [
      | yes l ↦ let e : b % 128 ≡ b = omega arith in rw (lt-leb 128 b l, ne_eqb (b / 128) 1 (λ e. omega arith), e)
      | no l ↦ let e : b % 128 ≡ b - 128 = omega arith in rw (le-leb 128 b (omega arith), eq-eqb (b / 128) 1 (omega arith), e)
    ]

pub returns : goal.returns
returns c = rw (and_mask c.args.byte 7) (parted c.args.byte c.ranges.byte.fits)
