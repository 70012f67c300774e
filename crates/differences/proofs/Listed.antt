-- The laws of `listed`: equality by entries, and the function that a list gives. By the laws of `tabulate`, and since places and vectors correspond.
use mathlib.Core.Path.{◌≡◌, ◌∙◌, ap}
use mathlib.Core.List.{List}
use Prim.Native.Nat.{ℕ}
use native.Mathlib.Omega.{arith}
use lib.IntN.{pos}
use Rattle.lists.proofs.Tabulate.{get_d_tabulate, tabulate-equal}
use Rattle.places.specs.Places.{Below, size, digits_at, place_of}
use Rattle.places.proofs.Places.{one_to_one}
use Rattle.differences.specs.Table.{listed, given}

pub listed-equal :
    {A : Type 0} (us : List ℕ) (f g : List ℕ → A) → ((x : List ℕ) → Below us x → f x ≡ g x) → listed us f ≡ listed us g
listed-equal us f g h =
    tabulate-equal (λ (p : ℕ). f (digits_at us p)) (λ (p : ℕ). g (digits_at us p)) 0 (size us)
    (λ p l. h (digits_at us p) ((one_to_one us).below p (omega arith)))

pub given-listed :
    (us : List ℕ) (f : List ℕ → ℕ) (x : List ℕ) → Below us x → given us (listed us f) x ≡ pos (f x)
unfolding given
given-listed us f x b =
    ap pos
    (get_d_tabulate (λ (p : ℕ). f (digits_at us p)) 0 (size us) 0 (place_of us x) ((one_to_one us).inside x b)
    ∙ ap (λ (p : ℕ). f (digits_at us p)) (omega arith)
    ∙ ap f ((one_to_one us).found x b))
