-- Files written from expressions, in document 01's layout ('The datapath file').
--   Expression            the steps of a datapath, given the number that its first step has; the last is its value
--   x i, constant c       input i, counted from 0; the constant c
--   _⊕_, _⊖_, _⊗_         sum, difference and product of two expressions: the left one's steps, the right one's, and one more
--   e ↑ n                 the n-th power of an expression, a product of n factors; 1 where n is 0
--   bytes n a             the n bytes of the number a, the first weighing least
--   operation_byte t, argument_of t
--                         how a step is held in the two arrays
--   written m ns e        the file of the expression e with output word length m and inputs of the word lengths ns
use Rattle.std.specs.Prelude.{List, [], ◌∷◌, ◌++◌, map, ℕ, zero, suc, ◌+◌, ◌-◌, ◌*◌, ◌/◌, ◌%◌, ◌^◌, length, replicate}
use Rattle.fields.specs.File.{width_bytes}
use Rattle.datapath.specs.declared.Step.{Step}
use Rattle.datapath.specs.declared.Step.TheVariants.{Input, Constant, Add, Subtract, Multiply}

abbrev pub Expression : Type 0
Expression = ℕ → List Step

unfoldable pub x : ℕ → Expression
x i k = Input i ∷ []

unfoldable pub constant : ℕ → Expression
constant c k = Constant c ∷ []

-- the operation o on the last steps of a and of b
unfoldable pub joined : (ℕ → ℕ → Step) → Expression → Expression → Expression
joined o a b k =
    let left = a k in
    let middle = k + length left in
    let right = b middle in
    left ++ right ++ (o (middle - 1) (middle + length right - 1) ∷ [])

infixl 65 ◌⊕◌ ◌⊖◌
infixl 70 ◌⊗◌
abbrev pub ◌⊕◌ : Expression → Expression → Expression
a ⊕ b = joined Add a b

abbrev pub ◌⊖◌ : Expression → Expression → Expression
a ⊖ b = joined Subtract a b

abbrev pub ◌⊗◌ : Expression → Expression → Expression
a ⊗ b = joined Multiply a b

unfoldable pub power : Expression → ℕ → Expression
power e zero = constant 1
power e (suc zero) = e
power e (suc (suc n)) = power e (suc n) ⊗ e

infixl 75 ◌↑◌
abbrev pub ◌↑◌ : Expression → ℕ → Expression
e ↑ n = power e n

unfoldable pub bytes : ℕ → ℕ → List ℕ
bytes zero a = []
bytes (suc n) a = a % 256 ∷ bytes n (a / 256)

unfoldable pub operation_byte : Step → ℕ
operation_byte (Input i) = 1
operation_byte (Constant c) = 2
operation_byte (Add l r) = 3
operation_byte (Subtract l r) = 4
operation_byte (Multiply l r) = 5

unfoldable pub argument_of : Step → ℕ
argument_of (Input i) = i
argument_of (Constant c) = c
argument_of (Add l r) = l + 2 ^ 16 * r
argument_of (Subtract l r) = l + 2 ^ 16 * r
argument_of (Multiply l r) = l + 2 ^ 16 * r

-- the arguments of the steps, 8 bytes each
unfoldable pub argument_bytes : List Step → List ℕ
argument_bytes [] = []
argument_bytes (t ∷ ts) = bytes 8 (argument_of t) ++ argument_bytes ts

unfoldable pub written : ℕ → List ℕ → Expression → List ℕ
written m ns e =
    let ts = e 0 in
    (m ∷ length ns ∷ bytes 2 (length ts))
    ++ (ns ++ replicate (width_bytes (length ns) - length ns) 0)
    ++ map operation_byte ts
    ++ argument_bytes ts
