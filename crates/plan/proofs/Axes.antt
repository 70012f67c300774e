-- The grid of an accepted file: its axes, and that it has a vector and fewer than 2^64. By the laws of grids.
-- Assumes nothing.
use mathlib.Core.List.{List}
use mathlib.Core.Path.{◌≡◌, sym, ◌∙◌, subst}
use Prim.Native.Nat.{ℕ, ◌^◌, ◌≤◌, ◌<◌}
use native.Mathlib.Decide.{dec_lt}
use native.Mathlib.Omega.{arith}
use lib.IntN.{pos}
use lib.ListN.{length, get_or, length-map, get_or-eq_default}
use lib.Pow.{pow_pos}
use Rattle.bound.specs.Bound.{max_bound}
use Rattle.fields.specs.File.{sizes_of}
use Rattle.fields.proofs.Heads.{length-widths}
use Rattle.file.specs.Accepted.{Accepted}
use Rattle.file.proofs.Sound.{file-sound}
use Rattle.grid.specs.Grid.{axes_of, lows_of, grid_size}
use Rattle.grid.proofs.Axes.{axes-most}
use Rattle.sizes.specs.Padded.{padded}
use Rattle.sizes.specs.Sizes.{max_inputs, formats_of}
use Rattle.sizes.proofs.Padded.{length-padded, padded-entry}
use Rattle.vectors.specs.Vectors.{low_words, Arrays}
use Rattle.words.specs.Words.{word}
use Rattle.words.proofs.Congruence.{word-most}
use Rattle.grid.proofs.Grids.{length-axes, length-lows, grid-least, grid-fits}
use Rattle.lists.proofs.Lists.{map-entry}

module _ (s : List ℕ) (a : Accepted s) where
  pub length-file-axes : length (axes_of (sizes_of s)) ≡ (sizes_of s).d
  length-file-axes = length-axes (sizes_of s) (length-widths s) a.inputs_high

  pub file-axis-most : (i : ℕ) → get_or (axes_of (sizes_of s)) i 0 ≤ max_bound
  unfolding axes_of
  file-axis-most i = axes-most (sizes_of s).m a.output_low a.output_high (formats_of (sizes_of s)) i

  pub file-grid-least : 1 ≤ grid_size (sizes_of s)
  file-grid-least = grid-least (sizes_of s) (file-sound s a)

  pub file-grid-fits : grid_size (sizes_of s) < 2 ^ 64
  file-grid-fits = grid-fits (sizes_of s) (file-sound s a)

  length-low-words : length (low_words (sizes_of s)) ≡ (sizes_of s).d
  unfolding low_words
  length-low-words = rw length-map (length-lows (sizes_of s) ∙ length-file-axes)

  -- the lowest values are words, and there are as many as inputs
  pub length-file-lows : length (padded (low_words (sizes_of s))) ≡ max_inputs
  length-file-lows = length-padded (low_words (sizes_of s)) (omega (arith, length-low-words, a.inputs_high))

  pub low-word-small : (i : ℕ) → get_or (low_words (sizes_of s)) i 0 < 2 ^ 64
  unfolding low_words
  low-word-small i =
      elim (dec_lt i (length (lows_of (sizes_of s)))) [
        | yes l ↦ subst (λ n. n < 2 ^ 64) (sym (map-entry word (lows_of (sizes_of s)) i (pos 0) 0 l)) (word-most _)
        | no n ↦ subst (λ n. n < 2 ^ 64) (sym (get_or-eq_default (low_words (sizes_of s)) 0 {n = i} (rw length-map (omega arith)))) (pow_pos 64)
      ]

  -- the lowest words and the axes, as the machine holds them
  pub file-arrays : Arrays (padded (low_words (sizes_of s))) (axes_of (sizes_of s))
  file-arrays =
      record {
        each = length-file-lows;
        words = λ i. rw (padded-entry (low_words (sizes_of s)) i) (low-word-small i);
        few = omega (arith, length-file-axes, a.inputs_high);
        axes = λ i. omega (arith, file-axis-most i);
      }
