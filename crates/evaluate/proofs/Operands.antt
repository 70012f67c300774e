-- A step that is run, by what it is: its index or its operands lie in the lent slices, and what the code makes of these words is its word.
-- Assumes nothing.
use Rattle.std.proofs.Common.{◌≡◌, ℕ, ◌+◌, ◌-◌, ◌*◌, ◌%◌, ◌^◌, ◌<◌, ◌≤◌, List, length, get_or, ℤ, refl, arith}
use lib.Pow.{pow_mono}
use Rattle.datapath.specs.Steps.{values}
use Rattle.datapath.specs.declared.Step.{Step}
use Rattle.datapath.specs.declared.Step.TheVariants.{Input, Constant, Add, Subtract, Multiply}
use Rattle.fields.specs.File.{sizes_of}
use Rattle.fields.specs.Steps.{step_at, steps_of}
use Rattle.file.proofs.Accepted.{Is, is}
use Rattle.words.specs.Words.{plain}
use Rattle.evaluate.specs.Run.{step_word, Running}
use Rattle.evaluate.proofs.Words.{input-word, constant-word, sum-word, difference-word, product-word}

-- an index below n, whose address fits
abbrev Within : ℕ → ℕ → Type 0
Within i n = (i < n) × (i < 1024)

module _ (s : List ℕ) (n : ℕ) (ws scratch : List ℕ) (k : ℕ) (h : Running s n ws scratch k) (b : k < n) where
  read : (t : Step) → t ≡ step_at s k → Is s k t
  read t e = is s n k (record { sound = h.ready.sound; count = h.ready.count }) b t t e refl

  abbrev before : List ℤ
  before = values (steps_of s) (plain ws) k

  inside : (i : ℕ) → i < k → Within i (length scratch)
  inside i l = (omega (arith, h.ready.room), omega (arith, h.ready.count, h.ready.sound.count_high))

  pub of_input : (i : ℕ) → Input i ≡ step_at s k → Within i (length ws)
  of_input i e =
      let r = read (Input i) e in
      (omega (arith, r.rule, h.ready.inputs), omega (arith, r.rule, h.ready.sound.inputs_high))

  pub input_word : (i : ℕ) → Input i ≡ step_at s k → get_or ws i 0 < 2 ^ 64 → get_or ws i 0 ≡ step_word s ws k
  input_word i e f = input-word s ws scratch before k _ h.words i e refl f

  pub constant_word : (c : ℕ) → Constant c ≡ step_at s k → c ≡ step_word s ws k
  constant_word c e =
      let fits : 2 ^ (sizes_of s).m ≤ 2 ^ 64 = pow_mono h.ready.sound.output_high in
      constant-word s ws scratch before k c h.words e (omega (arith, (read (Constant c) e).rule))

  module _ (l r : ℕ) where
    pub of_sum : Add l r ≡ step_at s k → Within l (length scratch) × Within r (length scratch)
    of_sum e = let p = (read (Add l r) e).rule in (inside l p.0, inside r p.1)

    pub of_difference : Subtract l r ≡ step_at s k → Within l (length scratch) × Within r (length scratch)
    of_difference e = let p = (read (Subtract l r) e).rule in (inside l p.0, inside r p.1)

    pub of_product : Multiply l r ≡ step_at s k → Within l (length scratch) × Within r (length scratch)
    of_product e = let p = (read (Multiply l r) e).rule in (inside l p.0, inside r p.1)

    pub sum_word : Add l r ≡ step_at s k → (get_or scratch l 0 + get_or scratch r 0) % 2 ^ 64 ≡ step_word s ws k
    sum_word e = let p = (read (Add l r) e).rule in sum-word s ws scratch before k _ h.words l r p.0 p.1 e refl

    pub difference_word :
        Subtract l r ≡ step_at s k → get_or scratch l 0 < 2 ^ 64 → get_or scratch r 0 < 2 ^ 64 →
        (get_or scratch l 0 + (2 ^ 64 - get_or scratch r 0)) % 2 ^ 64 ≡ step_word s ws k
    difference_word e f g =
        let p = (read (Subtract l r) e).rule in
        difference-word s ws scratch before k _ h.words l r p.0 p.1 e (omega arith) (omega arith)

    pub product_word : (x : ℕ) → Multiply l r ≡ step_at s k → x ≡ get_or scratch l 0 * get_or scratch r 0 % 2 ^ 64 → x ≡ step_word s ws k
    product_word x e q = let p = (read (Multiply l r) e).rule in product-word s ws scratch before k x h.words l r p.0 p.1 e q

pub ruleset step_words = (of_input, of_sum, of_difference, of_product, input_word, sum_word, difference_word)
