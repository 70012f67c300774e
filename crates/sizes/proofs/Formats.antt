-- The formats of the inputs of given sizes: one for each of the d, that of its width byte. Assumes nothing.
use mathlib.Core.Path.{◌≡◌, ◌∙◌, ap}
use Prim.Native.Nat.{ℕ, ◌≤◌, ◌<◌}
use native.Mathlib.Omega.{arith}
use lib.ListN.{length, get_or, take, length-map}
use lib.Seq.{length-take-le, get_or-take}
use Rattle.formats.specs.Bytes.{format_of}
use Rattle.formats.specs.declared.Format.{Format}
use Rattle.lists.proofs.Lists.{map-entry}
use Rattle.sizes.specs.Sizes.{format_at, formats_of}
use Rattle.sizes.specs.declared.Sizes.{Sizes}

pub length_formats : (z : Sizes) → z.d ≤ length z.widths → length (formats_of z) ≡ z.d
length_formats z h = rw length-map (length-take-le z.d z.widths h)

pub format_entry : (z : Sizes) → z.d ≤ length z.widths → (i : ℕ) (f : Format) → i < z.d → get_or (formats_of z) i f ≡ format_at z i
format_entry z h i f l =
    map-entry format_of (take z.d z.widths) i 0 f (omega (arith, length-take-le z.d z.widths h))
    ∙ ap format_of (get_or-take z.d z.widths i 0 l)
