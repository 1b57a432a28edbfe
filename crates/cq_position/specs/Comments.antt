-- The words of a comment, all that a game keeps of it.
use Rattle.std.specs.Prelude.{ℕ, List, [], ◌∷◌}
use Rattle.std.specs.List.{filter, slice_split, join_with_byte}
use Rattle.cq_common.specs.Text.{is_white}
use Rattle.cq_position.specs.Fen.{is_not_empty}

-- the words of a text are its longest parts without white space, except the empty ones
unfoldable pub words : List ℕ → List (List ℕ)
words text = filter is_not_empty (slice_split is_white text)

-- `}`, which ends a comment
abbrev pub closing_brace : ℕ
closing_brace = 125

-- the comment of some words: the words with single spaces between them; without words there is no comment
abbrev pub comment_of : List (List ℕ) → List (List ℕ)
comment_of [] = []
comment_of (word ∷ more) = join_with_byte 32 (word ∷ more) ∷ []
