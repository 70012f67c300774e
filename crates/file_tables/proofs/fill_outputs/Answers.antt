-- `file_tables::fill_outputs` meets its contract. The loop's invariant: v holds the vector at this place while it is before the end, the outputs at
-- the places passed are written, and the scratch entries past the first n are as at entry.
-- Assumes nothing.
use mathlib.Core.Path.{◌≡◌, refl, sym, ◌∙◌, ap, ap₂}
use mathlib.Core.List.{List, ◌++◌}
use Prim.Native.Nat.{ℕ, ◌+◌, ◌≤◌, ◌<◌}
use native.Mathlib.Omega.{arith}
use borrow.Author.Rules.{rules}
use Rattle.std.proofs.Common.{append-nil}
use lib.ListN.{length, get_or, take, drop, set, drop_of_length-le}
use lib.Seq.{take_all, length-take-le}
use Rattle.lists.proofs.Tabulate.{get_d_tabulate}
use Rattle.evaluate.specs.Evaluate.{output_of}
use Rattle.evaluate.proofs.Words.{padded-output}
use Rattle.evaluate.specs.Run.{word_output, Ready}
use Rattle.fields.specs.File.{sizes_of}
use Rattle.grid.specs.Grid.{axes_of, lows_of, grid_size, grid_vector}
use Rattle.grid.proofs.Grids.{length-lows}
use Rattle.places.specs.Places.{size}
use Rattle.plan.proofs.Axes.{file-arrays}
use Rattle.sizes.specs.Sizes.{max_inputs}
use Rattle.vectors.specs.Vectors.{low_words, held_at, Placed, Next}
use Rattle.vectors.proofs.Raised.{held-integers}
use Rattle.file_tables.specs.FileTables.{grid_outputs}
use Rattle.file_tables.specs.Filling.{Filling}
use Rattle.file_tables.proofs.Files.{length-outputs}
use Rattle.slices.proofs.Copied as Written
use Rattle.file_tables.proofs.fill_outputs.Invariants.{Filled}
use Rattle.file_tables.proofs.fill_outputs.Goals as goal

module _
    (s : List ℕ) (n : ℕ) (axes lows : List ℕ) (d count : ℕ) (scratch₀ table₀ scratch cells v : List ℕ) (p : ℕ)
    (asked : Filling s n axes lows d count scratch₀ table₀)
    (k : Filled s n axes lows d count scratch₀ (take count table₀) scratch cells v p)
  where
    each-output : length (grid_outputs s) ≡ count
    each-output = length-outputs s ∙ sym asked.counted

    ready : Ready s n v scratch
    ready =
        record {
          sound = asked.sound;
          count = asked.steps;
          inputs = omega (arith, k.full, asked.sound.inputs_high);
          room = omega (arith, k.long, asked.room);
        }

    finished : count ≤ p → cells ++ drop count table₀ ≡ grid_outputs s ++ drop count table₀
    finished h = ap (λ l. l ++ drop count table₀) (Written.whole _ _ _ _ _ k.written h ∙ ap₂ ◌++◌ (take_all count _ (omega (arith, each-output))) (drop_of_length-le (take count table₀) (omega (arith, length-take-le count table₀ asked.table_room))) ∙ append-nil _)

    grid-size-axes : grid_size (sizes_of s) ≡ size (take d axes)
    unfolding grid_size
    grid-size-axes = sym (ap size asked.grid)

    module _ (t : p < count) where
      inside : p < size (take d axes)
      inside = omega (arith, asked.counted ∙ grid-size-axes)

      placed : Placed lows (take d axes) v
      placed = record { place = p; inside = inside; shape = k.vector t }

      output-here : word_output s v ≡ get_or (grid_outputs s) p 0
      unfolding grid_outputs grid_vector low_words
      output-here =
          let z = sizes_of s in
          ap (word_output s)
          (k.vector t ∙ ap₂ (λ l us. held_at l us p) asked.lowest asked.grid ∙ held-integers (lows_of z) (axes_of z) p (length-lows z))
          ∙ padded-output s asked.sound (grid_vector z p)
          ∙ sym (get_d_tabulate (λ q. output_of s (grid_vector z q)) 0 (grid_size z) 0 p (omega (arith, asked.counted)) ∙ ap (λ q. output_of s (grid_vector z q)) (omega arith))

      more :
          (y : ℕ) (scratch' v' : List ℕ) → y ≡ word_output s v → length scratch' ≡ length scratch → drop n scratch' ≡ drop n scratch →
          length v' ≡ max_inputs →
          Next lows (take d axes) v v' →
          Filled s n axes lows d count scratch₀ (take count table₀) scratch' (set cells p y) v' (p + 1)
      more y scratch' v' e l q w step =
          let more-inside : p + 1 < count → p + 1 < size (take d axes) = λ h. omega (arith, h, asked.counted ∙ grid-size-axes) in
          record {
            written = Written.more _ _ _ _ _ k.written y t (omega (arith, each-output)) (omega (arith, length-take-le count table₀ asked.table_room)) (e ∙ output-here);
            long = l ∙ k.long;
            kept = q ∙ k.kept;
            full = w;
            vector = λ h. step p (more-inside h) (k.vector t);
          }

-- the front of the table slice that is written
front : {s : List ℕ} {n : ℕ} {axes lows : List ℕ} {d count : ℕ} {w t : List ℕ} → Filling s n axes lows d count w t → length (take count t) ≡ count
front {count} {t} k = length-take-le count t k.table_room

-- the grid has a first place
first-inside : {s : List ℕ} {n : ℕ} {axes lows : List ℕ} {d count : ℕ} {w t : List ℕ} → Filling s n axes lows d count w t → 0 < size (take d axes)
unfolding grid_size
first-inside k = omega (arith, k.some, k.counted ∙ ap size (sym k.grid))

pub vector_at-v-requires : goal.vector_at-v-requires
vector_at-v-requires c = record { d_le_max_inputs = omega (arith, c.requires.inputs, c.requires.sound.inputs_high); p_bound = first-inside c.requires }

pub loop-y-init : goal.loop-y-init
loop-y-init c =
    record {
      written = Written.none _ _ _;
      long = refl;
      kept = refl;
      full = search rules;
      vector = λ h. c.vector_at-v.ensures.words;
    }

pub output_at-requires : goal.output_at-requires
output_at-requires c = ready _ _ _ _ _ _ _ _ _ _ _ _ c.requires c.loop-y.invariant

pub advance-requires : goal.advance-requires
advance-requires c =
    let k = c.loop-y.invariant in
    let r = c.requires in
    let few : c.args.d ≤ max_inputs = omega (arith, r.inputs, r.sound.inputs_high) in
    record {
      arrays = rw (r.lowest, r.grid) (file-arrays _ r.sound);
      d_in_bounds = (omega (arith, few), omega (arith, k.full, few));
      placed = placed _ _ _ _ _ _ _ _ _ _ _ _ r k (omega (arith, front r));
    }

pub loop-y-preserved : goal.loop-y-preserved
loop-y-preserved c =
    more _ _ _ _ _ _ _ _ _ _ _ _ c.requires c.loop-y.invariant (omega (arith, front c.requires))
    _ _ _ c.output_at.ensures.output c.output_at.auto.scratch c.output_at.ensures.kept (c.advance.auto.v ∙ c.loop-y.invariant.full) c.advance.ensures

pub returns : goal.returns
returns c =
    let k = c.loop-y.invariant in
    record { table = finished _ _ _ _ _ _ _ _ _ _ _ _ c.requires k (omega (arith, front c.requires)); scratch = k.kept }
