-- `engine::first_difference` meets its contract: each way of comparing answers for the span from `from` to `from + count`.
-- Assumes nothing.
use mathlib.Core.Logic.{inl}
use mathlib.Core.List.{List}
use mathlib.Core.Path.{◌≡◌, refl}
use Prim.Native.Nat.{ℕ, ◌+◌, ◌*◌, ◌≤◌, ◌<◌, max}
use native.Mathlib.Nat.{le-max_left, le-max_right, max-le, mul-le-mul_left}
use native.Mathlib.Omega.{arith}
use lib.ListN.{length}
use Rattle.plan.specs.Plan.{Planned}
use Rattle.plan.specs.declared.Plan.{Plan}
use Rattle.plan.proofs.Numbers as plan
use Rattle.file.specs.Check.{max_steps}
use Rattle.grid.specs.Grid.{grid_size}
use Rattle.walk.specs.Walk.{Within}
use Rattle.engine.proofs.Prepared.{apart, in_turn}
use Rattle.engine.proofs.first_difference.Goals as goal

-- the span of the `count` places from `from` on
within :
    {s₁ s₂ : List ℕ} {p : Plan} → Planned s₁ s₂ p → (from count : ℕ) (scratch : List ℕ) → from + count ≤ p.size → max p.n1 p.n2 ≤ length scratch →
    0 < count → Within s₁ s₂ p (record { from = from; end = from + count }) scratch
unfolding grid_size
within k from count scratch inside room some =
    record { planned = k; some = omega arith; inside = rw (plan.grid k) (rw (plan.vectors k) at inside); room = room }

-- the larger count bounds both
both : (a b n c : ℕ) → n ≡ max a b → n ≤ c → (a ≤ c) × (b ≤ c)
both a b n c e h = (omega (arith, le-max_left a b), omega (arith, le-max_right a b))

pub by_places-requires : goal.by_places-requires
by_places-requires c = within c.requires.planned _ _ _ c.requires.count_bound c.requires.n2_in_bounds (omega arith)

-- rows of any lanes for counts up to the larger one
rows-within : (w a b n c : ℕ) → n ≡ max a b → w * n ≤ c → (w * a ≤ c) × (w * b ≤ c)
rows-within w a b n c e h =
    let l : a ≤ n = omega (arith, le-max_left a b) in
    let r : b ≤ n = omega (arith, le-max_right a b) in
    (omega (arith, mul-le-mul_left w l), omega (arith, mul-le-mul_left w r))

pub in_lanes-requires : goal.in_lanes-requires
in_lanes-requires c =
    let h = both _ _ _ 64 c.larger-n.ensures (omega arith) in
    record {
      within = within c.requires.planned _ _ _ c.requires.count_bound c.requires.n2_in_bounds (omega arith);
      enough = apart (inl refl) (omega (arith, h.0)) h.0 h.1 (omega (arith, h.1));
      small = (omega arith, omega arith, omega arith);
    }

pub in_lanes-requires-then-n-le-MIDDLE : goal.in_lanes-requires-then-n-le-MIDDLE
in_lanes-requires-then-n-le-MIDDLE c =
    let h = both _ _ _ 256 c.larger-n.ensures (omega arith) in
    record {
      within = within c.requires.planned _ _ _ c.requires.count_bound c.requires.n2_in_bounds (omega arith);
      enough = in_turn (inl refl) (omega (arith, h.0)) h.0 h.1 (omega (arith, h.1)) (omega arith);
      small = (omega arith, omega arith, omega arith);
    }

-- an accepted file has at most so many steps
few-steps : {s₁ s₂ : List ℕ} {p : Plan} → Planned s₁ s₂ p → (p.n1 ≤ max_steps) × (p.n2 ≤ max_steps)
few-steps k =
    (omega (arith, plan.count₁ k, k.files.sound₁.count_high), omega (arith, plan.count₂ k, k.files.sound₂.count_high))

pub long_lanes-requires : goal.long_lanes-requires
long_lanes-requires c =
    let h = few-steps c.requires.planned in
    omega (arith, c.larger-n.ensures, max-le h.0 h.1)

pub in_lanes-requires-2 : goal.in_lanes-requires-2
in_lanes-requires-2 c =
    let h = few-steps c.requires.planned in
    let r = rows-within _ _ _ _ _ c.larger-n.ensures c.long_lanes.ensures.1 in
    record {
      within = within c.requires.planned _ _ _ c.requires.count_bound c.requires.n2_in_bounds (omega arith);
      enough = in_turn c.long_lanes.ensures.0 r.0 h.0 h.1 r.1 (omega arith);
      small = (omega arith, omega arith, omega arith);
    }
