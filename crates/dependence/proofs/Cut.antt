-- The first entries of a list of steps, as a list of their own.
-- Assumes nothing.
use Rattle.std.proofs.Common.{◌≡◌, ℕ, ◌<◌, List, length, get_or, take, ◌∙◌, arith, get_or-take, length-take-le}
use Rattle.dependence.specs.Dependence.{Listed, Rest}

-- an entry of the cut list is one of the list
entry : {n : ℕ} {list : List ℕ} {c : ℕ} → Listed n list c → (q : ℕ) → q < c → get_or (take c list) q 0 ≡ get_or list q 0
entry {list = list} {c = c} h q less = get_or-take c list q 0 less

pub listed-cut : {n : ℕ} {list : List ℕ} {c : ℕ} → Listed n list c → Listed n (take c list) (length (take c list))
listed-cut {n} {list} {c} h =
    let e : length (take c list) ≡ c = length-take-le c list h.room in
    record {
      room = omega arith;
      below = λ q less. omega (arith, entry h q (omega (arith, e)), h.below q (omega (arith, e)));
      increasing =
          λ p q before less.
          omega (arith, entry h p (omega (arith, e)), entry h q (omega (arith, e)), h.increasing p q before (omega (arith, e)));
    }

pub rest-cut :
    (s : List ℕ) (j : ℕ) {n : ℕ} {list : List ℕ} {c : ℕ} → Listed n list c → Rest s j n list c → Rest s j n (take c list) (length (take c list))
rest-cut s j {n} {list} {c} h rest i less out =
    let e : length (take c list) ≡ c = length-take-le c list h.room in
    rest i less (λ q below same. out q (omega (arith, e)) (entry h q below ∙ same))
