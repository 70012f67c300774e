-- The figures of an output word length m (document 02, T-08).
--   Figures          what is told of m: a refusal, the bound and the quotients
--   given f          what of the figures f an accepted call gives
--   figures_of m     what is told of m: L(m) and its quotients by 2, 4, 8, 16, 32 and 64; or the refusal by 2, all else then 0
--   FiguresExactly   which of the two it is, with no test in it, and what is answered then. Proved in proofs/Exactly:
--     inside         of an m that 2 accepts the figures are told
--     outside        any other is refused
--   Told m f         the figures f are told of m:
--     number         they are no refusal
--     file, step     and show no file and no step
--     least          the bound is the least number whose factorial is divisible by 2^m
--     quotients      the quotients are those of the bound
--   Withheld f       the figures f are a refusal:
--     number         by 2
--     file, step     that shows no file and no step
--     none           the bound is 0
--     zeros          and so are the six quotients
use Rattle.std.specs.Prelude.{cond, ◌≡◌, ℕ, List, replicate}
use Rattle.bound.specs.Bound.{IsBound, bound}
use Rattle.bound.specs.Quotients.{halvings}
use Rattle.sizes.specs.Sizes.{output_length, OutputLength, refused_by, accepted}
use Rattle.sizes.specs.declared.Refusal.{Refusal}
use Rattle.figures.specs.declared.Figures.{Figures as Given}

pub record Figures : Type 0 where
  pub refusal : Refusal
  pub bound : ℕ
  pub quotients : List ℕ

abbrev pub given : Figures → Given
given f = record { bound = f.bound; quotients = f.quotients }

-- L(m) and its quotients
abbrev pub bound_answered : ℕ → Figures
bound_answered m = record { refusal = accepted; bound = bound m; quotients = halvings (bound m) }

-- refused by 2
abbrev pub bound_refused : Figures
bound_refused = record { refusal = refused_by 2; bound = 0; quotients = replicate 6 0 }

unfoldable pub figures_of : ℕ → Figures
figures_of m = cond (output_length m) (bound_answered m) bound_refused

pub record Told (m : ℕ) (f : Figures) : Type 0 where
  pub number : f.refusal.number ≡ 0
  pub file : f.refusal.file ≡ 0
  pub step : f.refusal.step ≡ 0
  pub least : IsBound m f.bound
  pub quotients : f.quotients ≡ halvings f.bound

pub record Withheld (f : Figures) : Type 0 where
  pub number : f.refusal.number ≡ 2
  pub file : f.refusal.file ≡ 0
  pub step : f.refusal.step ≡ 0
  pub none : f.bound ≡ 0
  pub zeros : f.quotients ≡ replicate 6 0

pub record FiguresExactly : Type 0 where
  pub inside : (m : ℕ) → OutputLength m → Told m (figures_of m)
  pub outside : (m : ℕ) → ¬ OutputLength m → Withheld (figures_of m)
