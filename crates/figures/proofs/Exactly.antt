-- The figures of m, by the cases of condition 2; and what the answer of the call tells of them.
use mathlib.Core.Path.{◌≡◌, refl, sym, subst, ap, ◌∙◌}
use mathlib.Core.Bool.{true, false}
use mathlib.Core.Logic.{inl, inr}
use Prim.Native.Nat.{ℕ}
use lib.ListN.{replicate}
use Rattle.std.specs.Prelude.{Result, Ok, Err}
use Rattle.bound.proofs.Algorithm.{least_bound}
use Rattle.ranges.proofs.Search.{true_or_false}
use Rattle.sizes.specs.Answered.{answered}
use Rattle.sizes.specs.Sizes.{output_length, OutputLength, accepted, accepts}
use Rattle.sizes.specs.declared.Refusal.{Refusal}
use Rattle.sizes.proofs.Answered.{ok-accepts, ok-value, err-refuses, err-refusal}
use Rattle.sizes.proofs.Ranges.{within-range}
use Rattle.sizes.proofs.Ruled.{range-within}
use Rattle.figures.specs.declared.Figures.{Figures as Given}
use Rattle.figures.specs.Figures.{Figures, given, figures_of, bound_answered, bound_refused, Told, Withheld, FiguresExactly}

module _ (m : ℕ) where
  pub figures_refused : output_length m ≡ false → figures_of m ≡ bound_refused
  unfolding figures_of
  figures_refused e = rw e

  pub figures_accepted : output_length m ≡ true → figures_of m ≡ bound_answered m
  unfolding figures_of
  figures_accepted e = rw e

  pub figures_inside : OutputLength m → figures_of m ≡ bound_answered m
  figures_inside r = figures_accepted (range-within 1 64 m r.0 r.1)

  pub figures_outside : ¬ OutputLength m → figures_of m ≡ bound_refused
  figures_outside n =
      elim (true_or_false (output_length m)) [ inl e ↦ absurd (n (within-range 1 64 m e)) | inr e ↦ figures_refused e ]

  told : Told m (bound_answered m)
  told = record { number = refl; file = refl; step = refl; least = least_bound m; quotients = refl }

  -- which of the two it is, by its refusal
  at-accepts : (accepts (figures_of m).refusal ≡ true → figures_of m ≡ bound_answered m) × (accepts (figures_of m).refusal ≡ false → figures_of m ≡ bound_refused)
  at-accepts =
      elim (true_or_false (output_length m)) [
        | inl e ↦ let p = figures_accepted e in (λ _. p, λ n. let q = ap (λ (f : Figures). accepts f.refusal) p in cc)
        | inr e ↦ let p = figures_refused e in (λ n. let q = ap (λ (f : Figures). accepts f.refusal) p in cc, λ _. p)
      ]

  pub figures_accepts : accepts (figures_of m).refusal ≡ true → (figures_of m).refusal ≡ accepted
  figures_accepts a = ap (λ (f : Figures). f.refusal) (at-accepts.0 a)

  -- what is told of m, by the answer of the call
  abbrev answer : Result Given Refusal
  answer = answered (figures_of m).refusal (given (figures_of m))

  pub told-ok : (y : Given) → Ok y ≡ answer → figures_of m ≡ record { refusal = accepted; bound = y.bound; quotients = y.quotients }
  told-ok y e =
      let f = figures_of m in
      let p = at-accepts.0 (ok-accepts f.refusal (given f) y e) in
      p ∙ ap (λ (v : Given). record { refusal = accepted; bound = v.bound; quotients = v.quotients }) (ap given (sym p) ∙ sym (ok-value f.refusal (given f) y e))

  pub told-err : (q : Refusal) → Err q ≡ answer → figures_of m ≡ record { refusal = q; bound = 0; quotients = replicate 6 0 }
  told-err q e =
      let f = figures_of m in
      let p = at-accepts.1 (err-refuses f.refusal (given f) q e) in
      p ∙ ap (λ (r : Refusal). record { refusal = r; bound = 0; quotients = replicate 6 0 }) (sym (err-refusal f.refusal (given f) q e ∙ ap (λ (g : Figures). g.refusal) p))

withheld : Withheld bound_refused
withheld = record { number = refl; file = refl; step = refl; none = refl; zeros = refl }

pub figures_exactly : FiguresExactly
figures_exactly =
    record {
      inside = λ m r. subst (Told m) (sym (figures_inside m r)) (told m);
      outside = λ m n. subst Withheld (sym (figures_outside m n)) withheld;
    }
