-- `evaluate::run` meets its contract. The loop's invariant: the first k scratch entries hold the values of the first k steps, the others are
-- as at entry.
-- Assumes nothing.
use Rattle.std.proofs.Common.{◌≡◌, ℕ, ◌+◌, ◌<◌, ◌≤◌, List, [], ◌∷◌, ◌++◌, map, length, get_or, drop, set, sym, ap, ◌∙◌, ap₂, arith, length-drop, length-set, drop-drop, take_at}
use lib.ListN.{length-map}
use Rattle.fields.specs.Steps.{step_at, steps_of}
use Rattle.fields.proofs.Steps.{steps-at}
use Rattle.lists.proofs.Lists.{map-append, set_front}
use Rattle.datapath.specs.Steps.{step_value, values}
use Rattle.datapath.specs.declared.Step.TheVariants.{Constant}
use Rattle.datapath.proofs.Values.{length-values, values-step}
use Rattle.words.specs.Words.{word, plain}
use Rattle.evaluate.specs.Run.{Ready, Running}
use Rattle.evaluate.proofs.run.Invariants.{Held}
use Rattle.evaluate.proofs.run.Goals as goal

module _ (s : List ℕ) (n : ℕ) (x scratch₀ scratch : List ℕ) (k : ℕ) (r : Ready s n x scratch₀) (within : k ≤ n) (h : Held s n x scratch₀ scratch k) where
  front : length (map word (values (steps_of s) (plain x) k)) ≡ k
  front = rw (length-map, length-values)

  running : Running s n x scratch k
  running =
      record {
        ready = record { sound = r.sound; count = r.count; inputs = r.inputs; room = omega (arith, r.room, h.long) };
        passed = within;
        words = rw h.words (take_at _ _ k front);
      }

  more :
      (v : ℕ) → k < n → v ≡ word (step_value (plain x) (values (steps_of s) (plain x) k) (step_at s k)) →
      Held s n x scratch₀ (set scratch k v) (k + 1)
  more v l e =
      record { long = rw length-set h.long; words = ap (λ xs. set xs k v) h.words ∙ extended }
    where
      some : 0 < length (drop k scratch₀)
      some = rw length-drop (omega (arith, r.room))

      next : map word (values (steps_of s) (plain x) (k + 1)) ≡ map word (values (steps_of s) (plain x) k) ++ (v ∷ [])
      next =
          ap (map word) (values-step (steps_of s) (plain x) k)
          ∙ map-append word (values (steps_of s) (plain x) k) (step_value (plain x) (values (steps_of s) (plain x) k) (get_or (steps_of s) k (Constant 0)) ∷ [])
          ∙ ap (λ t. map word (values (steps_of s) (plain x) k) ++ (word (step_value (plain x) (values (steps_of s) (plain x) k) t) ∷ [])) (steps-at s k (omega (arith, r.count)))
          ∙ ap (λ w. map word (values (steps_of s) (plain x) k) ++ (w ∷ [])) (sym e)

      extended : set (map word (values (steps_of s) (plain x) k) ++ drop k scratch₀) k v ≡ map word (values (steps_of s) (plain x) (k + 1)) ++ drop (k + 1) scratch₀
      extended =
          set_front (map word (values (steps_of s) (plain x) k)) (drop k scratch₀) k v front some
          ∙ ap₂ ◌++◌ (sym next) (drop-drop 1 k scratch₀)

pub step_word-requires : goal.step_word-requires
step_word-requires c = record { running = running _ _ _ _ _ _ c.requires c.loop-k.auto.k-end c.loop-k.invariant; k_lt_n = c.loop-k-test.true }

pub loop-k-preserved : goal.loop-k-preserved
loop-k-preserved c = more _ _ _ _ _ _ c.requires c.loop-k.auto.k-end c.loop-k.invariant _ c.loop-k-test.true c.step_word.ensures
