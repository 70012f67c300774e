-- The value of a step modulo 2^64, by what the step is: an input and a constant fit a word, and the operands are words of exact values.
use Rattle.std.proofs.Common.{◌≡◌, ℕ, ◌+◌, ◌-◌, ◌*◌, ◌%◌, ◌^◌, ◌<◌, List, ◌++◌, map, length, get_or, take, ℤ, pos, sym, ap, ◌∙◌, subst, ap₂, arith, get_or-take, pow_pos}
use native.Mathlib.Decide.{dec_lt}
use lib.ListN.{length-map, get_or-append, get_or-eq_default, get_or-map}
use Rattle.file.specs.Accepted.{Accepted}
use Rattle.fields.specs.File.{sizes_of, step_count}
use Rattle.fields.specs.Steps.{step_at, steps_of}
use Rattle.fields.proofs.Heads.{length-widths}
use Rattle.fields.proofs.Steps.{length-steps}
use Rattle.formats.specs.declared.Format.{Format}
use Rattle.input_words.proofs.InputWords.{values-entry, values_length, value_congruent}
use Rattle.integers.specs.Modulo.{remainder}
use Rattle.integers.proofs.Remainder.{remainder_pos}
use Rattle.sizes.specs.Padded.{padded}
use Rattle.sizes.specs.Sizes.{format_at, formats_of}
use Rattle.sizes.specs.declared.Sizes.{Sizes}
use Rattle.sizes.proofs.Formats.{length_formats}
use Rattle.sizes.proofs.Padded.{padded-entry}
use Rattle.datapath.specs.Steps.{step_value, values, exact, output}
use Rattle.datapath.specs.declared.Step.{Step}
use Rattle.datapath.specs.declared.Step.TheVariants.{Input, Constant, Add, Subtract, Multiply}
use Rattle.datapath.proofs.Values.{length-values, output_congruent}
use Rattle.words.specs.Words.{word, plain}
use Rattle.words.proofs.Congruence.{word_pos, word_cut, word-add, word-sub, word-mul}
use Rattle.evaluate.specs.Evaluate.{output_of, vector_of}
use Rattle.evaluate.specs.Run.{word_output, SameOutput}

-- an entry of the scratch slice is the word of the value that it holds
operand-word :
    (scratch : List ℕ) (vs : List ℤ) (k l : ℕ) → take k scratch ≡ map word vs → l < k → get_or scratch l 0 ≡ word (get_or vs l (pos 0))
unfolding remainder
operand-word scratch vs k l e h =
    sym (get_or-take k scratch l 0 h) ∙ ap (λ xs. get_or xs l 0) e ∙ get_or-map word vs l (pos 0)

-- the word r of step k at the words x, by what the step is, where the scratch slice holds the words of the values vs of the steps before
module _ (s x scratch : List ℕ) (vs : List ℤ) (k r : ℕ) (held : take k scratch ≡ map word vs) where
  abbrev Right : Type 0
  Right = r ≡ word (step_value (plain x) vs (step_at s k))

  right : (t : Step) → t ≡ step_at s k → r ≡ word (step_value (plain x) vs t) → Right
  right t e h = subst (λ u. r ≡ word (step_value (plain x) vs u)) e h

  pub input-word : (i : ℕ) → Input i ≡ step_at s k → r ≡ get_or x i 0 → r < 2 ^ 64 → Right
  unfolding step_value
  input-word i e q h = right (Input i) e (sym (word_pos r h) ∙ ap word (ap pos q ∙ sym (get_or-map pos x i 0)))

  pub constant-word : Constant r ≡ step_at s k → r < 2 ^ 64 → Right
  unfolding step_value
  constant-word e h = right (Constant r) e (sym (word_pos r h))

  module _ (i j : ℕ) (left : i < k) (before : j < k) where
    pub sum-word : Add i j ≡ step_at s k → r ≡ (get_or scratch i 0 + get_or scratch j 0) % 2 ^ 64 → Right
    unfolding step_value
    sum-word e q =
        right (Add i j) e
        (q
        ∙ ap₂ (λ u v. (u + v) % 2 ^ 64) (operand-word scratch vs k i held left) (operand-word scratch vs k j held before)
        ∙ word-add (get_or vs i (pos 0)) (get_or vs j (pos 0)))

    pub difference-word : Subtract i j ≡ step_at s k → r < 2 ^ 64 → (r + get_or scratch j 0) % 2 ^ 64 ≡ get_or scratch i 0 → Right
    unfolding step_value
    difference-word e h q =
        right (Subtract i j) e
        (word-sub r (get_or vs i (pos 0)) (get_or vs j (pos 0)) h
        (ap (λ v. (r + v) % 2 ^ 64) (sym (operand-word scratch vs k j held before)) ∙ q ∙ operand-word scratch vs k i held left))

    pub product-word : Multiply i j ≡ step_at s k → r ≡ get_or scratch i 0 * get_or scratch j 0 % 2 ^ 64 → Right
    unfolding step_value
    product-word e q =
        right (Multiply i j) e
        (q
        ∙ ap₂ (λ u v. u * v % 2 ^ 64) (operand-word scratch vs k i held left) (operand-word scratch vs k j held before)
        ∙ word-mul (get_or vs i (pos 0)) (get_or vs j (pos 0)))

-- the last value cut to m bits is the output
pub output-word :
    (s x rest : List ℕ) → Accepted s → (n : ℕ) → n ≡ step_count s →
    get_or (map word (values (steps_of s) (plain x) n) ++ rest) (n - 1) 0 % 2 ^ (sizes_of s).m ≡ word_output s x
unfolding output_of output exact remainder
output-word s x rest a n e =
    let vs = values (steps_of s) (plain x) in
    ap (λ w. w % 2 ^ (sizes_of s).m)
    (get_or-append (map word (vs n)) rest 0 (n - 1) (rw (length-map, length-values) (omega (arith, a.count_low)))
    ∙ get_or-map word (vs n) (n - 1) (pos 0))
    ∙ word_cut (get_or (vs n) (n - 1) (pos 0)) (sizes_of s).m a.output_high
    ∙ ap (λ k. remainder (get_or (vs k) (k - 1) (pos 0)) (2 ^ (sizes_of s).m)) (e ∙ sym (length-steps s))

-- the output reads no more of the words than its entries
pub output-entries : (s x y : List ℕ) → ((i : ℕ) → get_or x i 0 ≡ get_or y i 0) → word_output s x ≡ word_output s y
unfolding output_of
output-entries s x y e =
    output_congruent (sizes_of s).m (plain x) (plain y)
    (λ i. ap (λ z. remainder z (2 ^ (sizes_of s).m)) (get_or-map pos x i 0 ∙ ap pos (e i) ∙ sym (get_or-map pos y i 0))) (steps_of s)

-- and words stand for every vector that has them
pub same_output : SameOutput
unfolding output_of
same_output s a x =
    let m = (sizes_of s).m in
    output_congruent m (plain (map word x)) x
    (λ i.
    ap (λ z. remainder z (2 ^ m)) (get_or-map pos (map word x) i 0 ∙ ap pos (word-entry i))
    ∙ remainder_pos (word (get_or x i (pos 0))) (2 ^ m)
    ∙ word_cut (get_or x i (pos 0)) m a.output_high) (steps_of s)
  where
    word-entry : (i : ℕ) → get_or (map word x) i 0 ≡ word (get_or x i (pos 0))
    word-entry i = ap (get_or (map word x) i) (sym (word_pos 0 (pow_pos 64))) ∙ get_or-map word x i (pos 0)

-- so do words that are filled up with zeros
pub padded-output : (s : List ℕ) → Accepted s → (x : List ℤ) → word_output s (padded (map word x)) ≡ output_of s x
padded-output s a x = output-entries s (padded (map word x)) (map word x) (padded-entry (map word x)) ∙ same_output s a x

-- and the words that are given
pub given-output : (s : List ℕ) → Accepted s → (ws : List ℕ) → length ws ≡ (sizes_of s).d → word_output s ws ≡ output_of s (vector_of (sizes_of s) ws)
unfolding output_of
given-output s a ws l =
    output_congruent m (plain ws) (vector_of z ws)
    (λ i.
    ap (λ v. remainder v (2 ^ m)) (get_or-map pos ws i 0)
    ∙ remainder_pos (get_or ws i 0) (2 ^ m)
    ∙ elim (dec_lt i z.d) [
      | yes h ↦ sym (ap (λ v. remainder v (2 ^ m)) (values-entry fs ws i (format_at z i) (omega (arith, each)) (omega arith)) ∙ value_congruent _ (get_or ws i 0) m a.output_high)
      | no h ↦ sym (ap (λ v. remainder v (2 ^ m)) (get_or-eq_default (vector_of z ws) (pos 0) {n = i} (rw (values_length fs ws (omega (arith, each))) (omega (arith, each))))
          ∙ remainder_pos 0 (2 ^ m) ∙ ap (λ n. n % 2 ^ m) (sym (get_or-eq_default ws 0 {n = i} (omega arith))))
    ]) (steps_of s)
  where
    z : Sizes
    z = sizes_of s

    m : ℕ
    m = z.m

    fs : List Format
    fs = formats_of z

    each : length fs ≡ z.d
    each = length_formats z (omega (arith, length-widths s, a.inputs_high))
