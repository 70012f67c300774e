-- What is claimed of places. Each statement is proved in proofs/, under the same name with a small first letter.
--   OneToOne    places below the size and digits below the axes correspond one to one
--   Vectors     so do places below the size and the vectors of the grid, which has a lowest value for each axis:
--     on_axes    the vector at a place lies on the grid
--     only      no other place has it
--     found     every vector of the grid is at a place
--   InOrder     a place is below another exactly where its vector is before the other's
--   EachPlaced  so it is on every grid
use Rattle.std.specs.Prelude.{◌≡◌, ◌↔◌, List, ℕ, ◌<◌, ℤ, length}
use Rattle.places.specs.Places.{Below, size, digits_at, place_of}
use Rattle.places.specs.Vectors.{vector_at, OnAxes, Before}

pub record OneToOne (us : List ℕ) : Type 0 where
  pub below : (p : ℕ) → p < size us → Below us (digits_at us p)
  pub placed : (p : ℕ) → p < size us → place_of us (digits_at us p) ≡ p
  pub inside : (x : List ℕ) → Below us x → place_of us x < size us
  pub found : (x : List ℕ) → Below us x → digits_at us (place_of us x) ≡ x

pub record Vectors (los : List ℤ) (us : List ℕ) : Type 0 where
  pub on_axes : (p : ℕ) → p < size us → OnAxes los us (vector_at los us p)
  pub only : (p q : ℕ) → p < size us → q < size us → vector_at los us p ≡ vector_at los us q → p ≡ q
  pub found : (x : List ℤ) → OnAxes los us x → (p : ℕ) × (p < size us) × (vector_at los us p ≡ x)

abbrev pub InOrder : List ℤ → List ℕ → Type 0
InOrder los us =
    (p q : ℕ) → p < size us → q < size us → (p < q) ↔ Before (vector_at los us p) (vector_at los us q)

-- a grid has a lowest value for each of its axes
abbrev pub EachPlaced : Type 0
EachPlaced = (los : List ℤ) (us : List ℕ) → length los ≡ length us → Vectors los us × InOrder los us
