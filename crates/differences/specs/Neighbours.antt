-- What differencing and summing have in common: each value is joined with s times its neighbour, s = −1 for differences and s = 1 for sums.
--   combine s f      x ↦ f(x + 1) + s·f(x)
--   combined s k f   combine applied k times
--   mixed s ks F     combine for each input in turn, k_i times, at the counts 0
use Rattle.std.specs.Prelude.{List, [], ◌∷◌, ℕ, zero, suc, ℤ, ◌+ℤ◌, ◌*ℤ◌}

unfoldable pub combine : ℤ → (ℕ → ℤ) → ℕ → ℤ
combine s f x = f (suc x) +ℤ s *ℤ f x

unfoldable pub combined : ℤ → ℕ → (ℕ → ℤ) → ℕ → ℤ
combined s zero f = f
combined s (suc k) f = combined s k (combine s f)

unfoldable pub mixed : ℤ → List ℕ → (List ℕ → ℤ) → ℤ
mixed s [] F = F []
mixed s (k ∷ ks) F = combined s k (λ (t : ℕ). mixed s ks (λ (xs : List ℕ). F (t ∷ xs))) 0
