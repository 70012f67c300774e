-- What words give, where they have a layout: `if b then Some x else None` is x just where b holds. Assumes nothing.
use mathlib.Core.Bool.{Bool, true, false, true≢false}
use mathlib.Core.Path.{◌≡◌, refl, sym, ◌∙◌}
use Rattle.std.specs.Prelude.{Option, Some, None, if◌then◌else◌}

module _ {A : Type 0} where
  pub some_fits : (b : Bool) (x y : A) → Some y ≡ (if b then Some x else None) → b ≡ true
  some_fits true x y e = refl
  some_fits false x y e = absurd (let n : Some y ≡ None = e in cc)

  pub some_value : (b : Bool) (x y : A) → Some y ≡ (if b then Some x else None) → y ≡ x
  some_value true x y e = let s : Some y ≡ Some x = e in cc
  some_value false x y e = absurd (let n : Some y ≡ None = e in cc)

  pub none_fits : (b : Bool) (x : A) → None ≡ (if b then Some x else None) → b ≡ false
  none_fits true x e = absurd (let n : None ≡ Some x = e in cc)
  none_fits false x e = refl
