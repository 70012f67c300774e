-- What the plan of two comparable files holds, number by number.
-- Assumes nothing.
use mathlib.Core.List.{List}
use mathlib.Core.Path.{◌≡◌, refl, sym, ◌∙◌, ap}
use Prim.Native.Nat.{ℕ, ◌^◌, ◌≤◌, ◌<◌}
use native.Mathlib.Nat.{min-le_right}
use native.Mathlib.Omega.{arith}
use lib.ListN.{length, take, length-take}
use Rattle.fields.specs.File.{sizes_of, step_count}
use Rattle.grid.specs.Grid.{axes_of, grid_size, grid_of}
use Rattle.grid.proofs.Grids.{grid-axes}
use Rattle.places.specs.Places.{size}
use Rattle.sizes.specs.Padded.{padded}
use Rattle.sizes.specs.Sizes.{max_inputs}
use Rattle.sizes.proofs.Padded.{length-padded}
use Rattle.vectors.specs.Vectors.{low_words, Arrays}
use Rattle.plan.specs.Plan.{plan_of, Planned}
use Rattle.plan.specs.declared.Plan.{Plan}
use Rattle.fields.proofs.Heads.{length-widths}
use Rattle.plan.proofs.Axes.{length-file-axes, length-file-lows, file-grid-fits, file-arrays}

module _ {s₁ s₂ : List ℕ} {p : Plan} (k : Planned s₁ s₂ p) where
  pub count₁ : p.n1 ≡ step_count s₁
  unfolding plan_of
  count₁ = ap (λ (q : Plan). q.n1) k.plan

  pub count₂ : p.n2 ≡ step_count s₂
  unfolding plan_of
  count₂ = ap (λ (q : Plan). q.n2) k.plan

  pub output : p.m ≡ (sizes_of s₁).m
  unfolding plan_of
  output = ap (λ (q : Plan). q.m) k.plan

  pub inputs : p.d ≡ (sizes_of s₁).d
  unfolding plan_of
  inputs = ap (λ (q : Plan). q.d) k.plan

  -- there is an input, and a step in each file
  pub some_inputs : (1 ≤ p.d) × (p.d ≤ max_inputs)
  some_inputs = (omega (arith, inputs, k.files.sound₁.inputs_low), omega (arith, inputs, k.files.sound₁.inputs_high))

  pub some_steps : (1 ≤ p.n1) × (1 ≤ p.n2)
  some_steps = (omega (arith, count₁, k.files.sound₁.count_low), omega (arith, count₂, k.files.sound₂.count_low))

  pub vectors : p.size ≡ grid_size (sizes_of s₁)
  unfolding plan_of grid_of
  vectors = ap (λ (q : Plan). q.size) k.plan

  pub grid : take p.d p.axes ≡ axes_of (sizes_of s₁)
  unfolding plan_of
  grid = rw k.plan (grid-axes (sizes_of s₁) (grid_of (sizes_of s₁)) refl (length-widths s₁) k.files.sound₁.inputs_high)

  pub lowest : p.lows ≡ padded (low_words (sizes_of s₁))
  unfolding plan_of
  lowest = ap (λ (q : Plan). q.lows) k.plan

  pub enough : p.d ≤ length p.axes
  enough =
      let e : length (take p.d p.axes) ≡ p.d = ap length grid ∙ length-file-axes s₁ k.files.sound₁ ∙ sym inputs in
      rw (← e) (rw length-take (min-le_right p.d (length p.axes)))

  pub places_fit : size (take p.d p.axes) < 2 ^ 64
  unfolding grid_size
  places_fit = rw grid (file-grid-fits s₁ k.files.sound₁)

  pub arrays : Arrays p.lows (take p.d p.axes)
  arrays = rw (lowest, grid) (file-arrays s₁ k.files.sound₁)

  pub whole-axes : length p.axes ≡ max_inputs
  unfolding plan_of grid_of
  whole-axes =
      ap (λ (q : Plan). length q.axes) k.plan
      ∙ length-padded (axes_of (sizes_of s₁)) (omega (arith, length-file-axes s₁ k.files.sound₁, k.files.sound₁.inputs_high))

  pub whole-lows : length p.lows ≡ max_inputs
  whole-lows = ap length lowest ∙ length-file-lows s₁ k.files.sound₁
