-- The numbers of an answer that a function is given are those of a machine: the logic says so of each part of a struct. Assumes nothing.
use mathlib.Core.List.{List, [], ◌∷◌}
use Prim.Native.Nat.{ℕ, zero, suc, ◌^◌, ◌<◌}
use denote.Array.{each}
use denote.Laws.{Is}
use denote.Plain.{UInt}
use denote.Shadow.{shadow}
use denote.Struct.Declared.{row}
use lib.Dec.{lit<}
use lib.ListN.{get_or}
use mir.Syntax.{w64}
use mir.Val.{Val}
use Rattle.sessions.specs.contracts.Answer.{the_type}
use Rattle.sessions.specs.declared.Answer.{Answer}
use Rattle.printed.specs.Claims.{Words}

-- each entry of an array of 64-bit numbers; past its end there are zeros
entries : (xs : List ℕ) (us : List Val) → shadow (each ℕ (UInt w64).own_val xs us) → (i : ℕ) → get_or xs i 0 < 2 ^ 64
entries [] us h i = lit< tt
entries (x ∷ xs) [] h i = absurd h
entries (x ∷ xs) (u ∷ us) h zero = h.0.1
entries (x ∷ xs) (u ∷ us) h (suc i) = entries xs us h.1 i

pub words : (a : Answer) (vs : List Val) → Is (row the_type) a vs → Words a
words a vs is =
    let parts = is.1.1 in
    record {
      number = parts.0.1.1.0.1;
      file = parts.0.1.1.1.0.1;
      step = parts.0.1.1.1.1.0.1;
      inputs = parts.1.1.1.0.1.0.1;
      entries = entries a.vector parts.1.1.1.0.0 parts.1.1.1.0.1.1;
      output₁ = parts.1.1.1.1.0.1;
      output₂ = parts.1.1.1.1.1.0.1;
    }
