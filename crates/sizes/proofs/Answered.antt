-- What the answer of a call that may be refused tells of its refusal, and of what it gives. Where an accepting refusal is `accepted`, the answer
-- shows the refusal whole. Assumes nothing.
use mathlib.Core.Bool.{true, false}
use mathlib.Core.Logic.{⊎_elim}
use mathlib.Core.Path.{◌≡◌, sym, ◌∙◌, ap}
use borrow.Author.Tests.{eqb-true, eqb-false, eq-eqb, ne_eqb}
use Rattle.std.specs.Prelude.{Result, Ok, Err, is_err, IsErrAnd}
use Rattle.std.proofs.lemmas.Result.{err_from_is_err_and}
use Rattle.ranges.proofs.Search.{true_or_false}
use Rattle.sizes.specs.Answered.{answered, refusal_in}
use Rattle.sizes.specs.Sizes.{accepted, accepts}
use Rattle.sizes.specs.declared.Refusal.{Refusal}

module _ {A : Type 0} (r : Refusal) (x : A) where
  pub answered-accepts : accepts r ≡ true → answered r x ≡ Ok x
  answered-accepts e = rw e

  pub answered-refuses : accepts r ≡ false → answered r x ≡ Err r
  answered-refuses e = rw e

  -- what a call may answer, by the number of its refusal
  pub ok-answered : r.number ≡ 0 → Ok x ≡ answered r x
  ok-answered e = rw e

  pub err-answered : (q : Refusal) → q ≡ r → (q.number ≡ 0 → ⊥) → Err q ≡ answered r x
  err-answered q e n = ap (λ (p : Refusal). Err p) e ∙ sym (answered-refuses (ne_eqb _ 0 (λ z. n (ap (λ (p : Refusal). p.number) e ∙ z))))

  -- an answer that gives something
  module _ (y : A) (e : Ok y ≡ answered r x) where
    ok : (accepts r ≡ true) × (x ≡ y)
    ok =
        ⊎_elim
        (λ (t : accepts r ≡ true). (t, cc (answered-accepts t)))
        (λ (f : accepts r ≡ false). cc (answered-refuses f))
        (true_or_false (accepts r))

    pub ok-accepts : accepts r ≡ true
    ok-accepts = ok.0

    pub ok-number : r.number ≡ 0
    ok-number = eqb-true r.number 0 ok.0

    pub ok-value : y ≡ x
    ok-value = sym ok.1

  -- an answer that refuses
  module _ (q : Refusal) (e : Err q ≡ answered r x) where
    err : (accepts r ≡ false) × (q ≡ r)
    err =
        ⊎_elim
        (λ (t : accepts r ≡ true). cc (answered-accepts t))
        (λ (f : accepts r ≡ false). (f, cc (answered-refuses f)))
        (true_or_false (accepts r))

    pub err-refuses : accepts r ≡ false
    err-refuses = err.0

    pub err-number : r.number ≡ 0 → ⊥
    err-number = eqb-false r.number 0 err.0

    pub err-refusal : q ≡ r
    err-refusal = err.1

    -- a call that passes this refusal on, whatever it would give
    pub err-passed : {B : Type 0} (y : B) → Err q ≡ answered r y
    err-passed y = rw (err.0, err.1)

  -- an answer that is only asked which it is
  module _ (a : Result A Refusal) (e : a ≡ answered r x) where
    pub is_err-number : true ≡ is_err a → r.number ≡ 0 → ⊥
    is_err-number t z = let q = e ∙ answered-accepts (eq-eqb r.number 0 z) in cc (t ∙ ap is_err q)

    pub not_err-number : false ≡ is_err a → r.number ≡ 0
    not_err-number t =
        ⊎_elim
        (λ (h : accepts r ≡ true). eqb-true r.number 0 h)
        (λ (h : accepts r ≡ false). let q = e ∙ answered-refuses h in cc (t ∙ ap is_err q))
        (true_or_false (accepts r))

  -- the answer shows its refusal
  pub refusal_in_answered : (accepts r ≡ true → r ≡ accepted) → refusal_in (answered r x) ≡ r
  refusal_in_answered whole =
      ⊎_elim
      (λ (t : accepts r ≡ true). ap refusal_in (answered-accepts t) ∙ sym (whole t))
      (λ (f : accepts r ≡ false). ap refusal_in (answered-refuses f))
      (true_or_false (accepts r))

-- what the exit of a `?` returns is the refusal that it found
pub err_exit : {A : Type 0} (a : Result A Refusal) (q : Refusal) → IsErrAnd a (λ p. p ≡ q) → a ≡ Err q
err_exit a q h = let p = err_from_is_err_and a h in p.1 ∙ ap (λ (r : Refusal). Err r) p.2
