-- What a call answers that may be refused, and else gives something: a Result with its refusal for the error.
--   answered r x   the answer of a call whose refusal is r, and which gives x where r accepts: x, or r
--   refusal_in a   the refusal that the answer a shows: acceptance where it gives something
use Rattle.std.specs.Prelude.{cond, Result, Ok, Err}
use Rattle.sizes.specs.Sizes.{accepted, accepts}
use Rattle.sizes.specs.declared.Refusal.{Refusal}

abbrev pub answered : {A : Type 0} → Refusal → A → Result A Refusal
answered r x = cond (accepts r) (Ok x) (Err r)

abbrev pub refusal_in : {A : Type 0} → Result A Refusal → Refusal
refusal_in (Ok x) = accepted
refusal_in (Err e) = e
