-- What a row of the table claims, by the definitions of sessions.
--   calls p   the pair's continue calls: its two files in this order, each of its budgets, and a scratch slice of max_steps entries
--   Holds p   opening the two files is accepted, the calls from there give the row's answers, and document 01's stop D is the count of
--             vectors that these answers carry
use Rattle.std.specs.Prelude.{List, map, ◌≡◌, ℕ}
use Rattle.file.specs.Check.{max_steps}
use Rattle.sessions.specs.Calls.{Call, answers, vectors_run}
use Rattle.sessions.specs.Demand3.{start, stop}
use Rattle.sessions.specs.Session.{opened}
use Rattle.pairs.specs.Pairs.{Pair}

abbrev pub calls : Pair → List Call
calls p = map (λ (b : ℕ). record { file₁ = p.file₁; file₂ = p.file₂; budget = b; scratch = max_steps }) p.budgets

pub record Holds (p : Pair) : Type 0 where
  pub accepted : (opened p.file₁ p.file₂).refusal.number ≡ 0
  pub answered : answers (start p.file₁ p.file₂) (calls p) ≡ p.answers
  pub stopped : stop p.file₁ p.file₂ ≡ vectors_run p.answers
