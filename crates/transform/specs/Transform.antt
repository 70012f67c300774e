-- What the passes over all axes leave, and what is left of it modulo 2^m.
--   blockwise s vs l        l as blocks of the size of the grid vs, each replaced by its mixed combinations at the counts of that grid's places
--   transform_of sum M us c  the outputs that the cells c sum to over the grid us modulo M, or the difference table of c
use Rattle.std.specs.Prelude.{Bool, cond, List, ℕ, ◌*◌, ◌/◌, ◌%◌, ℤ, length, drop}
use Rattle.places.specs.Places.{size, digits_at}
use Rattle.differences.specs.Neighbours.{mixed}
use Rattle.differences.specs.Table.{table_of, given, summed}
use Rattle.lists.specs.Lists.{tabulate}
use Rattle.words.specs.Words.{word}

unfoldable pub blockwise : ℤ → List ℕ → List ℕ → List ℕ
blockwise s vs l =
    tabulate (λ (q : ℕ). word (mixed s (digits_at vs (q % size vs)) (given vs (drop (q / size vs * size vs) l)))) 0 (length l)

unfoldable pub transform_of : Bool → ℕ → List ℕ → List ℕ → List ℕ
transform_of sum M us c = cond sum (summed M us c) (table_of M us (given us c))
