-- `lanes::step_rows` meets its contract. The loop's invariant: in each lane every row that is not among the chosen ones from q on holds its value.
-- They are chosen in increasing order, so all rows before that of step(q) are such.
-- Assumes nothing.
use mathlib.Core.List.{List}
use mathlib.Core.Path.{◌≡◌}
use Prim.Native.Nat.{ℕ, ◌≤◌, ◌<◌}
use lib.ListN.{length}
use Rattle.lanes.specs.Lanes.{Reads, Held, Unchosen}
use Rattle.lanes.proofs.step_rows.Given as goal

-- i is not chosen from q on
abbrev pub Done : ℕ → (ℕ → ℕ → Type 0) → ℕ → ℕ → Type 0
Done count R q i = (p k : ℕ) → q ≤ p → p < count → R p k → ¬ (k ≡ i)

pub record Run (w : ℕ) (s : List ℕ) (n : ℕ) (inputs rows₀ : List ℕ) (count : ℕ) (R : ℕ → ℕ → Type 0) (rows : List ℕ) (q : ℕ) : Type 0 where
  pub long : length rows ≡ length rows₀
  pub chosen : (p : ℕ) → p < q → (k : ℕ) × R p k
  pub held :
      (l : ℕ) (x : List ℕ) → l < w → Reads w s inputs l x → ((i : ℕ) → i < n → Unchosen count R i → Held w s x rows₀ l i) →
      (i : ℕ) → i < n → Done count R q i → Held w s x rows l i

abbrev pub invariant-loop-q : goal.invariant-loop-q
invariant-loop-q g l = Run l.w l.file l.n l.inputs l.initial.rows l.count (goal.F-post g l.step) l.rows l.q
