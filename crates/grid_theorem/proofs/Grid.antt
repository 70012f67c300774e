-- The grid theorem. Let two datapaths differ at a full-width vector. Input by input, a value not among the L(m) lowest is replaced by one that is,
-- and at which they still differ (Along): the vector then lies on the grid, and is the same or before. So no full-width vector at which they
-- differ is before the first one on the grid; and the grid's order is that of its places.
use mathlib.Core.Path.{◌≡◌, refl, sym, ◌∙◌, ap, ap₂, subst}
use mathlib.Core.Bool.{Bool, true, false, not}
use mathlib.Core.Logic.{◌⊎◌, inl, inr, ⊎_elim}
use mathlib.Core.List.{List, [], ◌∷◌, ◌++◌}
use Prim.Native.Nat.{ℕ, ◌^◌, ◌<◌, ◌≤◌}
use native.Mathlib.Nat.{eq-or-lt_of_le}
use native.Mathlib.Decide.{dec_lt, ℕ_discrete}
use native.Mathlib.Omega.{arith}
use lib.Dec.{eqb}
use lib.IntN.{ℤ, pos, ◌+ℤ◌}
use lib.ListN.{length, length-map}
use lib.Seq.{append_snoc}
use lib.Signed.{◌<ℤ◌}
use borrow.Author.Tests.{eqb-true, eqb-false, not-true, not-false}
use Rattle.bound.specs.Axes.{lows, axes, axis}
use Rattle.bound.specs.Bound.{bound}
use Rattle.formats.specs.Formats.{lowest, InFormat, FullWidth}
use Rattle.formats.specs.declared.Format.{Format}
use Rattle.formats.proofs.Ends.{counted_in, count_of}
use Rattle.integers.proofs.Order.{above, at_least, add-<, <-added}
use Rattle.places.specs.Places.{size}
use Rattle.places.specs.Statement.{Vectors}
use Rattle.places.specs.Vectors.{vector_at, OnAxes, Before}
use Rattle.places.proofs.Order.{before_irrefl, before_trans}
use Rattle.places.proofs.Vectors.{vectors, before-place}
use Rattle.ranges.specs.Search.{first}
use Rattle.ranges.proofs.Search.{first_found, first-before}
use Rattle.datapath.specs.Steps.{output}
use Rattle.datapath.specs.declared.Step.{Step}
use Rattle.grid_theorem.specs.Comparison.{Agree, differs_at, first_difference}
use Rattle.grid_theorem.specs.Statement.{GridTheorem}
use Rattle.grid_theorem.proofs.Along.{agree-along}

-- a grid has a lowest value for each axis
pub each-axis : (m : ℕ) (fs : List Format) → length (lows fs) ≡ length (axes m fs)
each-axis m fs = rw (length-map, length-map)

-- every vector of the grid is full-width
pub grid-full : (m : ℕ) (fs : List Format) (x : List ℤ) → OnAxes (lows fs) (axes m fs) x → FullWidth fs x
unfolding axis
grid-full m [] [] b = tt
grid-full m [] (v ∷ x) b = absurd b
grid-full m (f ∷ fs) [] b = absurd b
grid-full m (f ∷ fs) (v ∷ x) b =
    let t = above (lowest f) v b.0.0 in
    let h = <-added (lowest f) t.0 (axis m f) (subst (λ z. z <ℤ (lowest f +ℤ pos (axis m f))) t.1 b.0.1) in
    (subst (InFormat f) (sym t.1) (counted_in f t.0 (omega (arith, h))), grid-full m fs x b.1)

-- the test of a difference of outputs, as a fact
not_equal : (a b : ℕ) → not (eqb a b) ≡ true → ¬ (a ≡ b)
not_equal a b e = eqb-false a b (not-true (eqb a b) e)

equal : (a b : ℕ) → not (eqb a b) ≡ false → a ≡ b
equal a b e = eqb-true a b (not-false (eqb a b) e)

module _ (m : ℕ) (ts₁ ts₂ : List Step) where
  abbrev Differ : List ℤ → Type 0
  Differ x = ¬ Agree m ts₁ ts₂ x

  -- the outputs differ at one of the L(m) values of an input from lo up, where they differ at any from there up
  lower :
      (lo : ℤ) (pre post : List ℤ) (x : ℕ) → Differ (pre ++ (lo +ℤ pos x) ∷ post) →
      (t : ℕ) × (t < bound m) × Differ (pre ++ (lo +ℤ pos t) ∷ post)
  lower lo pre post x d =
      elim (dec_lt t (bound m)) [
        | yes l ↦ (t, l, not_equal _ _ (first_found differs 0 (bound m) (omega arith)))
        | no g ↦ absurd (d (agree-along m ts₁ ts₂ lo pre post (all g) x))
      ]
    where
      differs : ℕ → Bool
      differs u = not (eqb (output m ts₁ (pre ++ (lo +ℤ pos u) ∷ post)) (output m ts₂ (pre ++ (lo +ℤ pos u) ∷ post)))

      t : ℕ
      t = first differs 0 (bound m)

      all : ¬ (t < bound m) → (u : ℕ) → u < bound m → Agree m ts₁ ts₂ (pre ++ (lo +ℤ pos u) ∷ post)
      all g u h = equal _ _ (first-before differs 0 (bound m) u (omega arith) (omega arith))

  -- the same, at or below the value, and on the axis
  lowered :
      (f : Format) (lo : ℤ) (pre post : List ℤ) (x : ℕ) → x < 2 ^ f.length → Differ (pre ++ (lo +ℤ pos x) ∷ post) →
      (t : ℕ) × (t < axis m f) × (t ≤ x) × Differ (pre ++ (lo +ℤ pos t) ∷ post)
  unfolding axis
  lowered f lo pre post x h d =
      elim (dec_lt x (bound m)) [
        | yes l ↦ (x, omega arith, omega arith, d)
        | no g ↦ let r = lower lo pre post x d in (r.0, omega (arith, r.1), omega (arith, r.1), r.2)
      ]

  -- a vector of the grid at which the outputs differ, the same as a full-width one or before it
  record Reached (fs : List Format) (pre xs : List ℤ) : Type 0 where
    vector : List ℤ
    on_grid : OnAxes (lows fs) (axes m fs) vector
    differs : Differ (pre ++ vector)
    order : (vector ≡ xs) ⊎ Before vector xs

  descend : (fs : List Format) (pre xs : List ℤ) → FullWidth fs xs → Differ (pre ++ xs) → Reached fs pre xs
  descend [] pre [] b d = record { vector = []; on_grid = tt; differs = d; order = inl refl }
  descend [] pre (v ∷ xs) b d = absurd b
  descend (f ∷ fs) pre [] b d = absurd b
  descend (f ∷ fs) pre (v ∷ xs) b d =
      let lo = lowest f in
      let c = count_of f v b.0 in
      let first = lowered f lo pre xs c.count c.below (subst (λ z. Differ (pre ++ z ∷ xs)) c.value d) in
      let t = first.0 in
      let rest = descend fs (pre ++ ((lo +ℤ pos t) ∷ [])) xs b.1 (rw append_snoc first.3) in
      record {
        vector = (lo +ℤ pos t) ∷ rest.vector;
        on_grid = ((at_least lo t, add-< lo t (axis m f) first.1), rest.on_grid);
        differs = rw append_snoc at rest.differs;
        order = compared lo t c.count c.value rest.vector first.2 rest.order;
      }
    where
      compared :
          (lo : ℤ) (t n : ℕ) → v ≡ lo +ℤ pos n → (ys : List ℤ) → t ≤ n → (ys ≡ xs) ⊎ Before ys xs →
          ((lo +ℤ pos t) ∷ ys ≡ v ∷ xs) ⊎ Before ((lo +ℤ pos t) ∷ ys) (v ∷ xs)
      compared lo t n q ys h o =
          ⊎_elim
          (λ (e : t ≡ n).
          let same : lo +ℤ pos t ≡ v = ap (λ k. lo +ℤ pos k) e ∙ sym q in
          ⊎_elim (λ (r : ys ≡ xs). inl (ap₂ (λ a b. a ∷ b) same r)) (λ (c : Before ys xs). inr (inr (same, c))) o)
          (λ (l : t < n). inr (inl (subst (λ z. (lo +ℤ pos t) <ℤ z) (sym q) (add-< lo t n l))))
          (eq-or-lt_of_le h)

  module _ (fs : List Format) where
    abbrev los : List ℤ
    los = lows fs

    abbrev us : List ℕ
    us = axes m fs

    -- places and vectors of the grid
    at_places : Vectors los us
    at_places = vectors los us (each-axis m fs)

    abbrev stop : ℕ
    stop = first_difference m los us ts₁ ts₂

    -- no place before the first such place has a vector at which the outputs differ
    placed-after : (p : ℕ) → Differ (vector_at los us p) → stop ≤ p
    unfolding first_difference differs_at
    placed-after p d =
        elim (dec_lt p stop) [
          | yes l ↦ absurd (d (equal _ _ (first-before (differs_at m los us ts₁ ts₂) 0 (size us) p (omega arith) l)))
          | no g ↦ omega arith
        ]

    from_grid : ((y : List ℤ) → OnAxes los us y → Agree m ts₁ ts₂ y) → (x : List ℤ) → FullWidth fs x → Agree m ts₁ ts₂ x
    from_grid all x b =
        elim (ℕ_discrete (output m ts₁ x) (output m ts₂ x))
        [ yes a ↦ a | no d ↦ let r = descend fs [] x b d in absurd (r.differs (all r.vector r.on_grid)) ]

    none : stop ≡ size us → (x : List ℤ) → FullWidth fs x → Agree m ts₁ ts₂ x
    none e =
        from_grid
        (λ y b.
        elim (ℕ_discrete (output m ts₁ y) (output m ts₂ y)) [
          | yes a ↦ a
          | no d ↦ let q = at_places.found y b in absurd (omega (arith, placed-after q.0 (subst Differ (sym q.2) d), q.1))
        ])

    found : stop < size us → Differ (vector_at los us stop)
    unfolding first_difference differs_at
    found l = not_equal _ _ (first_found (differs_at m los us ts₁ ts₂) 0 (size us) (omega arith))

    earliest : stop < size us → (w : List ℤ) → FullWidth fs w → Differ w → ¬ Before w (vector_at los us stop)
    earliest l w b d h =
        let r = descend fs [] w b d in
        let y = r.vector in
        let place = at_places.found y r.on_grid in
        let q = place.0 in
        let back = place.2 in
        let y-before : Before y (vector_at los us stop) =
        ⊎_elim (λ (e : y ≡ w). rw e h) (λ (c : Before y w). before_trans y w (vector_at los us stop) c h) r.order in
        ⊎_elim
        (λ (e : stop ≡ q). before_irrefl y (subst (Before y) (ap (vector_at los us) e ∙ back) y-before))
        (λ (c : stop < q). before_irrefl y (before_trans y (vector_at los us stop) y y-before
        (subst (Before (vector_at los us stop)) back (before-place los us (each-axis m fs) stop q c place.1))))
        (eq-or-lt_of_le (placed-after q (subst Differ (sym back) r.differs)))

pub grid_theorem : GridTheorem
grid_theorem m fs ts₁ ts₂ =
    record {
      settled = (λ all x b. all x (grid-full m fs x b), from_grid m ts₁ ts₂ fs);
      none = none m ts₁ ts₂ fs;
      some = λ l.
          let b = (at_places m ts₁ ts₂ fs).on_axes _ l in
          (b, record { full_width = grid-full m fs _ b; differs = found m ts₁ ts₂ fs l; earliest = earliest m ts₁ ts₂ fs l });
    }
