-- The front of a slice, as it is written.
--   cleared n xs           xs with its first n entries zero
--   overwritten n xs ys    ys with its first n entries those of xs
--   KeptPast n before after  past the first n entries nothing has changed
use Rattle.std.specs.Prelude.{List, ◌++◌, ◌≡◌, ℕ, take, drop, replicate}

abbrev pub cleared : ℕ → List ℕ → List ℕ
cleared n xs = replicate n 0 ++ drop n xs

abbrev pub overwritten : ℕ → List ℕ → List ℕ → List ℕ
overwritten n xs ys = take n xs ++ drop n ys

abbrev pub KeptPast : ℕ → List ℕ → List ℕ → Type 0
KeptPast n before after = drop n after ≡ drop n before
