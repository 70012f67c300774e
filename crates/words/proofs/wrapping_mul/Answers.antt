-- `words::wrapping_mul` meets its contract: multiplication by halves of 32 bits. Each product of two halves fits. Assumes nothing.
use Rattle.std.proofs.Common.{ℕ, ◌+◌, ◌*◌, ◌/◌, ◌%◌, ◌^◌, ap, ◌∙◌, ap₂, arith}
use native.Mathlib.Nat.{div-add-mod}
use Rattle.words.proofs.Halves.{product-most, by-halves}
use Rattle.words.proofs.wrapping_mul.Goals as goal

pub overflow_mul-cross : goal.overflow_mul-cross
overflow_mul-cross c = record { fits = product-most 32 (omega arith) (omega arith) }

pub overflow_mul-cross-2 : goal.overflow_mul-cross-2
overflow_mul-cross-2 c = record { fits = product-most 32 (omega arith) (omega arith) }

pub overflow_mul-result : goal.overflow_mul-result
overflow_mul-result c = record { fits = product-most 32 (omega arith) (omega arith) }

pub returns : goal.returns
returns c =
    let a = c.args.a in
    let b = c.args.b in
    by-halves (2 ^ 32) (a / 2 ^ 32) (a % 2 ^ 32) (b / 2 ^ 32) (b % 2 ^ 32)
    ∙ ap₂ (λ (x y : ℕ). (x * y) % 2 ^ 64) (div-add-mod a (2 ^ 32)) (div-add-mod b (2 ^ 32))
