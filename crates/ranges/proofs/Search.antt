-- The laws of bounded search, each by induction on the count.
-- A loop that looks for the first j below n with f j keeps `first f 0 n ≡ first f j (n - j)`: first-start enters, first_step passes a j,
-- first-here stops at one, first_end leaves. A loop that tests all j below n keeps `every f 0 n ≡ every f j (n - j)`: every-start,
-- every-step, every-not and every_end. A search may also be taken in parts: first_past passes a stretch with none, first_part ends inside a
-- part, and first-shift makes the same tests elsewhere.
-- Assumes nothing.
use mathlib.Core.Bool.{Bool, true, false, cond}
use mathlib.Core.Logic.{◌⊎◌, inl, inr, ⊎_elim}
use mathlib.Core.Path.{◌≡◌, refl, sym, ap, ◌∙◌}
use Prim.Native.Nat.{ℕ, zero, suc, ◌+◌, ◌-◌, ◌≤◌, ◌<◌}
use native.Mathlib.Nat.{eq-or-lt_of_le, sub-zero}
use native.Mathlib.Omega.{arith}
use Rattle.ranges.specs.Search.{first, every}

pub true_or_false : (b : Bool) → (b ≡ true) ⊎ (b ≡ false)
true_or_false true = inl refl
true_or_false false = inr refl

-- what holds of both holds of the one that is chosen
pub cond_each : {A : Type 0} (P : A → Type 0) (b : Bool) {x y : A} → P x → P y → P (cond b x y)
cond_each P true p q = p
cond_each P false p q = q

module _ (f : ℕ → Bool) where
  pub first-empty : (j : ℕ) → first f j 0 ≡ j
  unfolding first
  first-empty j = refl

  pub first-here : (j k : ℕ) → f j ≡ true → first f j k ≡ j
  unfolding first
  first-here j zero e = refl
  first-here j (suc k) e = rw e

  pub first-later : (j k : ℕ) → f j ≡ false → first f j (suc k) ≡ first f (j + 1) k
  unfolding first
  first-later j k e = rw e

  pub first-least : (j k : ℕ) → j ≤ first f j k
  first-least j zero = rw first-empty (omega arith)
  first-least j (suc k) =
      let later = first-least (j + 1) k in
      ⊎_elim
      (λ (e : f j ≡ true). rw (first-here j (suc k) e) (omega arith))
      (λ (e : f j ≡ false). rw (first-later j k e) (omega arith))
      (true_or_false (f j))

  pub first-most : (j k : ℕ) → first f j k ≤ j + k
  first-most j zero = rw first-empty (omega arith)
  first-most j (suc k) =
      let later = first-most (j + 1) k in
      ⊎_elim
      (λ (e : f j ≡ true). rw (first-here j (suc k) e) (omega arith))
      (λ (e : f j ≡ false). rw (first-later j k e) (omega arith))
      (true_or_false (f j))

  pub first_found : (j k : ℕ) → first f j k < j + k → f (first f j k) ≡ true
  first_found j zero l = absurd (let e = first-empty j in omega arith)
  first_found j (suc k) l =
      ⊎_elim
      (λ (e : f j ≡ true). rw (first-here j (suc k) e) e)
      (λ (e : f j ≡ false). rw (first-later j k e) (first_found (j + 1) k (omega (arith, first-later j k e))))
      (true_or_false (f j))

  pub first-before : (j k i : ℕ) → j ≤ i → i < first f j k → f i ≡ false
  first-before j zero i low high = absurd (let e = first-empty j in omega arith)
  first-before j (suc k) i low high =
      ⊎_elim
      (λ (e : f j ≡ true). absurd (omega (arith, first-here j (suc k) e)))
      (λ (e : f j ≡ false).
      ⊎_elim
      (λ (q : j ≡ i). ap f (sym q) ∙ e)
      (λ (l : j < i). first-before (j + 1) k i (omega arith) (omega (arith, first-later j k e)))
      (eq-or-lt_of_le low))
      (true_or_false (f j))

  -- from j up to i, f is false throughout
  abbrev pub NoneBelow : ℕ → ℕ → Type 0
  NoneBelow j i = (h : ℕ) → j ≤ h → h < i → f h ≡ false

  pub first_unique : (j k i : ℕ) → j ≤ i → i < j + k → f i ≡ true → NoneBelow j i → first f j k ≡ i
  first_unique j zero i low high e before = absurd (omega arith)
  first_unique j (suc k) i low high e before =
      ⊎_elim
      (λ (q : j ≡ i). first-here j (suc k) (ap f q ∙ e) ∙ q)
      (λ (l : j < i).
      first-later j k (before j (omega arith) l)
      ∙ first_unique (j + 1) k i (omega arith) (omega arith) e (λ h lh hi. before h (omega arith) hi))
      (eq-or-lt_of_le low)

  pub first_absent : (j k : ℕ) → NoneBelow j (j + k) → first f j k ≡ j + k
  first_absent j zero none = first-empty j ∙ omega arith
  first_absent j (suc k) none =
      first-later j k (none j (omega arith) (omega arith))
      ∙ first_absent (j + 1) k (λ h low high. none h (omega arith) (omega arith))
      ∙ omega arith

  pub first-start : (n : ℕ) → first f 0 n ≡ first f 0 (n - 0)
  first-start n = ap (first f 0) (sym (sub-zero n))

  pub first_step : (j n : ℕ) → j < n → f j ≡ false → first f j (n - j) ≡ first f (j + 1) (n - (j + 1))
  first_step j n l e =
      let q : n - j ≡ suc (n - (j + 1)) = omega arith in
      ap (first f j) q ∙ first-later j (n - (j + 1)) e

  pub first_end : (j n : ℕ) → n ≤ j → first f j (n - j) ≡ j
  first_end j n l =
      let q : n - j ≡ 0 = omega arith in
      ap (first f j) q ∙ first-empty j

  -- a stretch of k with none is passed
  passed : (k p n : ℕ) → p + k ≤ n → NoneBelow p (p + k) → first f p (n - p) ≡ first f (p + k) (n - (p + k))
  passed zero p n h none =
      let q : p + 0 ≡ p = omega arith in
      rw q
  passed (suc k) p n h none =
      let q : p + 1 + k ≡ p + suc k = omega arith in
      first_step p n (omega arith) (none p (omega arith) (omega arith))
      ∙ passed k (p + 1) n (omega arith) (λ i low high. none i (omega arith) (omega arith))
      ∙ ap (λ i. first f i (n - i)) q

  pub first_past : (p q n : ℕ) → p ≤ q → q ≤ n → NoneBelow p q → first f p (n - p) ≡ first f q (n - q)
  first_past p q n low high none =
      let e : p + (q - p) ≡ q = omega arith in
      passed (q - p) p n (omega arith) (λ i l h. none i l (omega arith)) ∙ ap (λ i. first f i (n - i)) e

  -- a search that finds in the first k of n finds the same in all
  pub first_part : (p k n : ℕ) → first f p k < p + k → p + k ≤ n → first f p (n - p) ≡ first f p k
  first_part p k n h r =
      first_unique p (n - p) (first f p k) (first-least p k) (omega (arith, first-least p k)) (first_found p k h) (first-before p k)

  pub every-empty : (j : ℕ) → every f j 0 ≡ true
  unfolding every
  every-empty j = refl

  pub every-later : (j k : ℕ) → f j ≡ true → every f j (suc k) ≡ every f (j + 1) k
  unfolding every
  every-later j k e = rw e

  pub every_here : (j k : ℕ) → f j ≡ false → every f j (suc k) ≡ false
  unfolding every
  every_here j k e = rw e

  pub every-at : (j k i : ℕ) → every f j k ≡ true → j ≤ i → i < j + k → f i ≡ true
  every-at j zero i all low high = absurd (omega arith)
  every-at j (suc k) i all low high =
      ⊎_elim
      (λ (e : f j ≡ true).
      ⊎_elim
      (λ (q : j ≡ i). ap f (sym q) ∙ e)
      (λ (l : j < i). every-at (j + 1) k i (sym (every-later j k e) ∙ all) (omega arith) (omega arith))
      (eq-or-lt_of_le low))
      (λ (e : f j ≡ false). cc (every_here j k e))
      (true_or_false (f j))

  pub every_of : (j k : ℕ) → ((i : ℕ) → j ≤ i → i < j + k → f i ≡ true) → every f j k ≡ true
  every_of j zero at = every-empty j
  every_of j (suc k) at =
      every-later j k (at j (omega arith) (omega arith))
      ∙ every_of (j + 1) k (λ i low high. at i (omega arith) (omega arith))

  pub every-start : (n : ℕ) → every f 0 n ≡ every f 0 (n - 0)
  every-start n = ap (every f 0) (sym (sub-zero n))

  pub every-step : (j n : ℕ) → j < n → f j ≡ true → every f j (n - j) ≡ every f (j + 1) (n - (j + 1))
  every-step j n l e =
      let q : n - j ≡ suc (n - (j + 1)) = omega arith in
      ap (every f j) q ∙ every-later j (n - (j + 1)) e

  pub every-not : (j n : ℕ) → j < n → f j ≡ false → every f j (n - j) ≡ false
  every-not j n l e =
      let q : n - j ≡ suc (n - (j + 1)) = omega arith in
      ap (every f j) q ∙ every_here j (n - (j + 1)) e

  pub every_end : (j n : ℕ) → n ≤ j → every f j (n - j) ≡ true
  every_end j n l =
      let q : n - j ≡ 0 = omega arith in
      ap (every f j) q ∙ every-empty j

-- the same tests p further on
pub first-shift :
    (f g : ℕ → Bool) (p j k : ℕ) → ((i : ℕ) → j ≤ i → i < j + k → f (p + i) ≡ g i) → first f (p + j) k ≡ p + first g j k
first-shift f g p j zero e = first-empty f (p + j) ∙ ap (λ i. p + i) (sym (first-empty g j))
first-shift f g p j (suc k) e =
    ⊎_elim
    (λ (t : g j ≡ true).
    first-here f (p + j) (suc k) (e j (omega arith) (omega arith) ∙ t) ∙ ap (λ i. p + i) (sym (first-here g j (suc k) t)))
    (λ (t : g j ≡ false).
    let q : p + j + 1 ≡ p + (j + 1) = omega arith in
    first-later f (p + j) k (e j (omega arith) (omega arith) ∙ t)
    ∙ ap (λ i. first f i k) q
    ∙ first-shift f g p (j + 1) k (λ i low high. e i (omega arith) (omega arith))
    ∙ ap (λ i. p + i) (sym (first-later g j k t)))
    (true_or_false (g j))
