-- A list of calls of corkbingo_continue, as a caller in C has made them, all on the same session words.
--   Made               one call: what it was given, the words lent to it at entry, what it returned, and these words at exit (with a ')
--   number, kind, run  words of its answer: the refusal's number, the kind (0 refused, 1 spent, 2 equivalent, 3 differs), the vectors run
--   IsCall c           what corkbingo_continue promises holds of the call c
--   Chain w cs         each call of the list was given the session words that the one before it left, the first the words w
--   left w cs          the session words after the list: those that the last call left, or w where there is none
--   Each P cs          each call of the list has the property P
--   IsRefused c        the call returned 1, and the number word of its answer is not 0
--   GivesVerdict c     the call returned 1, and the kind word of its answer is 2 or 3
--   OwnFiles f₁ f₂ c   the call was given these two files in this order
--   Allowed f₁ f₂ c    it was given these files in this order, or was refused, or returned 0, its layout being wrong
--   budgets cs         S: the sum of the budgets of the calls that returned 1 with the number word 0
--   runs cs            the sum of the run words of the calls that returned 1
use Rattle.std.specs.Prelude.{Bool, cond, ◌&&◌, List, [], ◌∷◌, ◌⊎◌, ◌≡◌, ℕ, ◌+◌, eqb}
use Rattle.layouts.specs.Lengths.{word_at, at_number, at_kind, at_run}
use Rattle.session_calls.specs.SessionCalls.{ContinueCall}
use Rattle.callers.specs.RefusedInC.{Refused}

pub record Made : Type 0 where
  pub file₁ : List ℕ
  pub file₂ : List ℕ
  pub budget : ℕ
  pub session : List ℕ
  pub scratch : List ℕ
  pub answer : List ℕ
  pub result : ℕ
  pub session' : List ℕ
  pub scratch' : List ℕ
  pub answer' : List ℕ

abbrev pub number : Made → ℕ
number c = word_at c.answer' at_number

abbrev pub kind : Made → ℕ
kind c = word_at c.answer' at_kind

abbrev pub run : Made → ℕ
run c = word_at c.answer' at_run

abbrev pub IsCall : Made → Type 0
IsCall c =
    ContinueCall c.file₁ c.file₂ c.budget c.session c.scratch c.answer c.result
    c.session' c.scratch' c.answer'

-- one link of a chain: the call was given the words w
pub record Link (w : List ℕ) (c : Made) : Type 0 where
  pub given : c.session ≡ w
  pub call : IsCall c

abbrev pub Chain : List ℕ → List Made → Type 0
Chain w [] = Unit {0}
Chain w (c ∷ cs) = Link w c × Chain c.session' cs

abbrev pub left : List ℕ → List Made → List ℕ
left w [] = w
left w (c ∷ cs) = left c.session' cs

abbrev pub Each : (Made → Type 0) → List Made → Type 0
Each P [] = Unit {0}
Each P (c ∷ cs) = P c × Each P cs

abbrev pub IsRefused : Made → Type 0
IsRefused c = Refused c.result c.answer'

pub record GivesVerdict (c : Made) : Type 0 where
  pub laid : c.result ≡ 1
  pub verdict : (kind c ≡ 2) ⊎ (kind c ≡ 3)

pub record OwnFiles (f₁ f₂ : List ℕ) (c : Made) : Type 0 where
  pub first : c.file₁ ≡ f₁
  pub second : c.file₂ ≡ f₂

abbrev pub Allowed : List ℕ → List ℕ → Made → Type 0
Allowed f₁ f₂ c = OwnFiles f₁ f₂ c ⊎ (IsRefused c ⊎ (c.result ≡ 0))

-- the call returned 1
abbrev pub returned1 : Made → Bool
returned1 c = eqb c.result 1

unfoldable pub budgets : List Made → ℕ
budgets [] = 0
budgets (c ∷ cs) = cond (returned1 c && eqb (number c) 0) c.budget 0 + budgets cs

unfoldable pub runs : List Made → ℕ
runs [] = 0
runs (c ∷ cs) = cond (returned1 c) (run c) 0 + runs cs
