-- Objects and arrays of JSON (RFC 8259, sections 4 and 5), without white space.
use Rattle.std.specs.Prelude.{ℕ, ◌==◌, List, [], ◌∷◌, ◌++◌, codes, length, if◌then◌else◌}
use Rattle.std.specs.List.{flat_map}

-- a value or a member after another
abbrev pub next : List ℕ → List ℕ
next text = codes "," ++ text

-- values or members with a comma between two
abbrev pub separated : List (List ℕ) → List ℕ
separated [] = []
separated (first ∷ others) = first ++ flat_map next others

abbrev pub array : List (List ℕ) → List ℕ
array values = codes "[" ++ (separated values ++ codes "]")

abbrev pub object : List (List ℕ) → List ℕ
object members = codes "{" ++ (separated members ++ codes "}")

-- a string of characters that need no escape
abbrev pub plain : List ℕ → List ℕ
plain text = codes "\"" ++ (text ++ codes "\"")

-- a member of an object: its name, and its value
abbrev pub member : List ℕ → List ℕ → List ℕ
member name value = plain name ++ (codes ":" ++ value)

-- a member with an array, if there are values
abbrev pub array_member : List ℕ → List (List ℕ) → List (List ℕ)
array_member name values = if length values == 0 then [] else member name (array values) ∷ []
