-- A loop that writes entries of a list one after another. `Put before after at P n`: P holds of each i below n and the entry at i, and every other
-- entry is as before. put-start enters the loop, put_step makes one write. In a row of w lanes the entries are w · k + i: row-start and row_step keep
-- `Row`, row_kept reads an earlier row meanwhile, and row_lanes and row_others leave, row_end where the lanes are given. zipped: the row that a function makes of two others, where what it
-- answers is known. left-row and right-row: the rows of operands lie within the list.
-- Assumes nothing.
use mathlib.Core.List.{List}
use mathlib.Core.Path.{◌≡◌, refl, sym, ◌∙◌, ap, subst}
use Prim.Native.Nat.{ℕ, ◌+◌, ◌*◌, ◌≤◌, ◌<◌}
use native.Mathlib.Decide.{ℕ_discrete, dec_lt}
use native.Mathlib.Nat.{mul-le-mul_left}
use native.Mathlib.Omega.{arith}
use borrow.Author.Count.{below_more}
use lib.ListN.{length, get_or, set, length-set}
use lib.Seq.{get_or-set_same, get_or-set_other}
use Rattle.rows.specs.Rows.{lane, HasRow, OthersKept, Written, Zipped, Operands}

pub record Put (before after : List ℕ) (at : ℕ → ℕ) (P : ℕ → ℕ → Type 0) (n : ℕ) : Type 0 where
  pub long : length after ≡ length before
  pub new : (i : ℕ) → i < n → P i (get_or after (at i) 0)
  pub old : (j : ℕ) → ((i : ℕ) → i < n → ¬ (at i ≡ j)) → get_or after j 0 ≡ get_or before j 0

pub put-start : (before : List ℕ) (at : ℕ → ℕ) (P : ℕ → ℕ → Type 0) → Put before before at P 0
put-start before at P = record { long = refl; new = λ i h. absurd (omega arith); old = λ j h. refl }

pub put_step :
    {before after : List ℕ} {at : ℕ → ℕ} {P : ℕ → ℕ → Type 0} {n : ℕ} → Put before after at P n →
    (v : ℕ) → at n < length before → ((i : ℕ) → i < n → ¬ (at i ≡ at n)) → P n v → Put before (set after (at n) v) at P (n + 1)
put_step {before} {after} {at} {P} {n} p v inside apart e =
    record {
      long = length-set after (at n) v ∙ p.long;
      new =
          below_more (λ i. P i (get_or (set after (at n) v) (at i) 0)) n
          (λ i h. subst (P i) (sym (get_or-set_other after (at n) (at i) v 0 (apart i h))) (p.new i h))
          (subst (P n) (sym (get_or-set_same after (at n) v 0 (omega (arith, p.long)))) e);
      old = λ j h. get_or-set_other after (at n) j v 0 (λ q. h n (omega arith) (sym q)) ∙ p.old j (λ i l. h i (omega arith));
    }

-- a row before another ends where that one begins, or before
pub before-row : (w a k : ℕ) → a < k → w * a + w ≤ w * k
before-row w a k h = omega (arith, mul-le-mul_left w h)

module _ {w : ℕ} {ws : List ℕ} {k a b : ℕ} (o : Operands w ws k a b) where
  pub left-row : HasRow w ws a
  left-row = omega (arith, before-row w a k o.left, o.room)

  pub right-row : HasRow w ws b
  right-row = omega (arith, before-row w b k o.right, o.room)

-- a lane of a row is no lane of another row
rows_apart : (w i j k u : ℕ) → j < w → u < w → ¬ (i ≡ k) → ¬ (w * k + u ≡ w * i + j)
rows_apart w i j k u hj hu d e =
    elim (dec_lt i k) [ yes h ↦ omega (arith, before-row w i k h) | no h ↦ omega (arith, before-row w k i (omega arith)) ]

-- an entry is one lane
pub same-lane : (w i j k u : ℕ) → j < w → u < w → w * k + u ≡ w * i + j → u ≡ j
same-lane w i j k u hj hu e =
    elim (ℕ_discrete i k) [ yes q ↦ omega (arith, ap (λ n. w * n) q) | no q ↦ absurd (rows_apart w i j k u hj hu q e) ]

pub record Row (w : ℕ) (before after : List ℕ) (k : ℕ) (P : ℕ → ℕ → Type 0) (l : ℕ) : Type 0 where
  pub within : l ≤ w
  pub put : Put before after (λ i. w * k + i) P l

pub row-start : (w : ℕ) (before : List ℕ) (k : ℕ) (P : ℕ → ℕ → Type 0) → Row w before before k P 0
row-start w before k P = record { within = omega arith; put = put-start before _ P }

module _ {w : ℕ} {before after : List ℕ} {k : ℕ} {P : ℕ → ℕ → Type 0} {l : ℕ} (r : Row w before after k P l) where
  pub row_step : HasRow w before k → l < w → (v : ℕ) → P l v → Row w before (set after (w * k + l) v) k P (l + 1)
  row_step room h v e = record { within = omega arith; put = put_step r.put v (omega arith) (λ i t q. omega arith) e }

  pub row_lanes : w ≤ l → (i : ℕ) → i < w → P i (lane w after k i)
  row_lanes h i t = r.put.new i (omega arith)

  pub row_others : OthersKept w before after k
  row_others i j t d = r.put.old (w * i + j) (λ u g q. rows_apart w i j k u t (omega (arith, r.within)) d q)

  pub row_kept : (a i : ℕ) → a < k → i < w → lane w after a i ≡ lane w before a i
  row_kept a i h t = row_others a i t (λ e. omega arith)

-- a row in which each lane is given
pub row_end : {w : ℕ} {before after : List ℕ} {k l : ℕ} (f : ℕ → ℕ) → Row w before after k (λ i v. v ≡ f i) l → w ≤ l → Written w before after k f
row_end f r h = record { row = row_lanes r h; others = row_others r }

-- a row of which f is known to give the lanes from those of the rows a and b
pub zipped :
    {P : ℕ → ℕ → ℕ → Type 0} {w : ℕ} {before after : List ℕ} {k a b : ℕ} → Zipped P w before after k a b →
    (f : ℕ → ℕ) → ((l v : ℕ) → P (lane w before a l) (lane w before b l) v → v ≡ f l) → Written w before after k f
zipped z f e = record { row = λ l h. e l _ (z.row l h); others = z.others }
