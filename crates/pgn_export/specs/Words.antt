-- Words, and marks directly before the first of them and directly after the last.
use Rattle.std.specs.Prelude.{ℕ, List, [], ◌∷◌, ◌++◌, codes}
use Rattle.cq_position.specs.Comments.{words}

-- the words with a mark before the first
abbrev pub with_prefix : List ℕ → List (List ℕ) → List (List ℕ)
with_prefix mark [] = []
with_prefix mark (w ∷ ws) = (mark ++ w) ∷ ws

-- the words with a mark after the last
abbrev pub with_suffix : List ℕ → List (List ℕ) → List (List ℕ)
with_suffix mark [] = []
with_suffix mark (w ∷ []) = (w ++ mark) ∷ []
with_suffix mark (w ∷ v ∷ ws) = w ∷ with_suffix mark (v ∷ ws)

-- a comment is written as its words, in braces (PGN standard, section 5)
abbrev pub comment_words : List ℕ → List (List ℕ)
comment_words text = with_suffix (codes "}") (with_prefix (codes "{") (words text))

-- a variation is written as its words, in parentheses (section 8.2.5)
abbrev pub in_parens : List (List ℕ) → List (List ℕ)
in_parens ws = with_suffix (codes ")") (with_prefix (codes "(") ws)
