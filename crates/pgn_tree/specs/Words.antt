-- The text of a comment, and the growth of a text by it.
use Rattle.std.specs.Prelude.{◌≡◌, ℕ, List, ◌++◌, map, ◌==◌, if◌then◌else◌}
use Rattle.cq_position.specs.Comments.{closing_brace}

-- the byte between the words of a comment
abbrev pub space : ℕ
space = 32

-- `)`
abbrev pub closing_parenthesis : ℕ
closing_parenthesis = 41

abbrev pub without_brace : ℕ → ℕ
without_brace b = if b == closing_brace then closing_parenthesis else b

-- A comment is written between braces, so that a closing brace in it becomes a closing parenthesis.
abbrev pub without_braces : List ℕ → List ℕ
without_braces text = map without_brace text

-- a text begins with another one
abbrev pub Begins : List ℕ → List ℕ → Type 0
Begins front text = (more : List ℕ) × (text ≡ front ++ more)
