-- Sessions as words: the sizes, position, mark.
--   mark_word, mark_from   a mark: 0 open, 1 equal, 2 differ
--   session_words σ       the words of the session σ
--   session_fits w        the words are a session: there are session_length of them, each size fits a byte, and the mark is 0 to 2
--   session_from w        the session that the words give
use Rattle.std.specs.Prelude.{Bool, cond, ◌&&◌, List, [], ◌∷◌, ◌++◌, ℕ, leb, eqb, length}
use Rattle.sessions.specs.declared.Mark.{Mark}
use Rattle.sessions.specs.declared.Mark.TheVariants.{Open, Equal, Differ}
use Rattle.sessions.specs.declared.Session.{Session}
use Rattle.layouts.specs.Lengths.{word_at, at_position, at_mark, session_length}
use Rattle.layouts.specs.SizeWords.{size_words, size_bytes, sizes_from}

unfoldable pub mark_word : Mark → ℕ
mark_word Open = 0
mark_word Equal = 1
mark_word Differ = 2

unfoldable pub mark_from : ℕ → Mark
mark_from k = cond (eqb k 0) Open (cond (eqb k 1) Equal Differ)

unfoldable pub session_words : Session → List ℕ
session_words σ = size_words σ.sizes ++ (σ.position ∷ mark_word σ.mark ∷ [])

unfoldable pub session_fits : List ℕ → Bool
session_fits w = eqb (length w) session_length && size_bytes w && leb (word_at w at_mark) 2

unfoldable pub session_from : List ℕ → Session
session_from w =
    record { sizes = sizes_from w; position = word_at w at_position; mark = mark_from (word_at w at_mark) }
