-- What the calls on sessions promise. The parameters of each record are what the call is given, its lent slices at entry, what it
-- returns, and these slices at exit (with a '): files f₁ and f₂, budget B, session words w, scratch slice s, answer slice o of opening and a
-- of continuing.
--   OpenCall            open_call
--   ContinueCall        continue_call
--   open_fits w o        the layout of opening: a session's and a refusal's count of words
--   continue_fits w a    the layout of continuing: an answer's count of words, and the words w are a session
--   continuing          what continuing the session that the words w give answers: the session handed back and the answer
-- Their fields:
--   result    1 where the layout is right, else 0
--   session   the session words: the session that opening gave, or that continuing hands back
--   out       the answer slice gets the refusal
--   answer    the answer slice gets the answer
--   scratch   the scratch slice: where the call is accepted its first entries, as many as the larger N, are zero, and all else is untouched
-- Where the call returns 0, every slice is as at entry.
use Rattle.std.specs.Prelude.{Bool, ◌&&◌, List, ◌≡◌, ℕ, length}
use Rattle.layouts.specs.AnswerWords.{refusal_words, answer_words}
use Rattle.layouts.specs.Layout.{has, returned, leaves}
use Rattle.layouts.specs.Lengths.{session_length, refusal_length, answer_length}
use Rattle.layouts.specs.SessionWords.{session_words, session_fits, session_from}
use Rattle.sessions.specs.Session.{opened, continued, continued_scratch}
use Rattle.sessions.specs.declared.Continued.{Continued}

unfoldable pub open_fits : List ℕ → List ℕ → Bool
open_fits w o = has session_length w && has refusal_length o

pub record OpenCall (f₁ f₂ w o : List ℕ) (r : ℕ) (w' o' : List ℕ) : Type 0 where
  pub result : r ≡ returned (open_fits w o)
  pub session : w' ≡ leaves (open_fits w o) (session_words (opened f₁ f₂).session) w
  pub out : o' ≡ leaves (open_fits w o) (refusal_words (opened f₁ f₂).refusal) o

unfoldable pub continue_fits : List ℕ → List ℕ → Bool
continue_fits w a = has answer_length a && session_fits w

abbrev pub continuing : List ℕ → List ℕ → List ℕ → ℕ → List ℕ → Continued
continuing f₁ f₂ w B s = continued f₁ f₂ (session_from w) B (length s)

pub record ContinueCall (f₁ f₂ : List ℕ) (B : ℕ) (w s a : List ℕ) (r : ℕ) (w' s' a' : List ℕ) : Type 0 where
  pub result : r ≡ returned (continue_fits w a)
  pub session : w' ≡ leaves (continue_fits w a) (session_words (continuing f₁ f₂ w B s).session) w
  pub answer : a' ≡ leaves (continue_fits w a) (answer_words (continuing f₁ f₂ w B s).answer) a
  pub scratch : s' ≡ leaves (continue_fits w a) (continued_scratch f₁ f₂ (session_from w) B s) s
