-- Lists of calls with one call more at the end: the session that is handed back, and the vectors run. By recursion over the list.
use mathlib.Core.List.{List, [], ◌∷◌, ◌++◌}
use mathlib.Core.Path.{◌≡◌, refl}
use Prim.Native.Nat.{◌+◌}
use native.Mathlib.Omega.{arith}
use Rattle.sessions.specs.Calls.{Call, answer_to, session_after, answers, vectors_run}
use Rattle.sessions.specs.declared.Session.{Session}

pub session_snoc : (σ : Session) (cs : List Call) (c : Call) → session_after σ (cs ++ c ∷ []) ≡ (answer_to (session_after σ cs) c).session
unfolding session_after
session_snoc σ [] c = refl
session_snoc σ (b ∷ cs) c = session_snoc (answer_to σ b).session cs c

pub run_snoc :
    (σ : Session) (cs : List Call) (c : Call) →
    vectors_run (answers σ (cs ++ c ∷ [])) ≡ vectors_run (answers σ cs) + (answer_to (session_after σ cs) c).answer.run
unfolding session_after answers vectors_run
run_snoc σ [] c = omega arith
run_snoc σ (b ∷ cs) c = omega (arith, run_snoc (answer_to σ b).session cs c)
