-- `plan::plan_of` meets its contract, by what is read of both files.
-- Assumes nothing.
use mathlib.Core.List.{List}
use mathlib.Core.Path.{◌≡◌}
use Prim.Native.Nat.{ℕ}
use Rattle.fields.proofs.Heads.{head-short}
use Rattle.file.proofs.Sound.{file-sound, file-ruled}
use Rattle.fields.specs.File.{sizes_of, step_count}
use Rattle.grid.specs.Grid.{grid_of}
use Rattle.grid.specs.declared.Grid.{Grid}
use Rattle.sizes.specs.Padded.{padded}
use Rattle.sizes.specs.declared.Sizes.{Sizes}
use Rattle.vectors.specs.Vectors.{low_words}
use Rattle.plan.specs.Plan.{plan_of}
use Rattle.plan.specs.declared.Plan.{Plan}
use Rattle.plan.proofs.plan_of.Goals as goal

planned :
    (s₁ s₂ : List ℕ) (z : Sizes) (g : Grid) (lows : List ℕ) (n₁ n₂ m d : ℕ) →
    z ≡ sizes_of s₁ → g ≡ grid_of z → lows ≡ padded (low_words z) → n₁ ≡ step_count s₁ → n₂ ≡ step_count s₂ → m ≡ z.m → d ≡ z.d →
    ◌≡◌ {A = Plan} (record { n1 = n₁; n2 = n₂; m = m; d = d; axes = g.axes; lows = lows; size = g.size }) (plan_of s₁ s₂)
unfolding plan_of
planned s₁ s₂ z g lows n₁ n₂ m d e f l c₁ c₂ a b = rw (c₁, c₂, a, b, f, l, e)

pub grid_of-g-requires : goal.grid_of-g-requires
grid_of-g-requires c =
    let a = c.requires.comparable.sound₁ in
    rw c.requires.z_value (file-sound _ a)

pub lowest_words-lows-requires : goal.lowest_words-lows-requires
lowest_words-lows-requires c =
    let a = c.requires.comparable.sound₁ in
    rw c.requires.z_value (file-ruled _ a)

pub step_count-requires : goal.step_count-requires
step_count-requires c = head-short _ c.requires.comparable.sound₁.long

pub step_count-requires-2 : goal.step_count-requires-2
step_count-requires-2 c = head-short _ c.requires.comparable.sound₂.long

pub returns : goal.returns
returns c = planned _ _ _ _ _ _ _ _ _ c.requires.z_value c.grid_of-g.ensures c.lowest_words-lows.ensures c.step_count.ensures.0 c.step_count-2.ensures.0 c.from.ensures c.from-2.ensures
