-- The text of a sum in one pass, for the contracts of private functions. The openings of its pairs come first, the last pair's first. Then
-- come the terms, each at its pair's end.
use Rattle.std.specs.Prelude.{ℕ, Bool, true, false, List, [], ◌∷◌, ◌++◌, codes}
use Rattle.std.specs.List.{concat}
use Rattle.cql_syntax.specs.Trees.{TermTrees, no_terms, more_terms}

-- the opening of a term's pair
abbrev pub opening : Bool → List ℕ
opening true = codes "(- "
opening false = codes "(+ "

-- the openings of the terms' pairs
abbrev pub openings : TermTrees → List ℕ
openings no_terms = []
openings (more_terms minus f ts) = openings ts ++ opening minus

-- the text directly before a first term: one that is subtracted is subtracted from 0
abbrev pub before_first : Bool → List ℕ
before_first true = codes "(- 0"
before_first false = []

-- the text before the terms of a sum; without terms, the whole text
abbrev pub sum_start : TermTrees → List ℕ
sum_start no_terms = codes "(+)"
sum_start (more_terms minus f ts) = openings ts ++ before_first minus

-- a term, which ends its pair; a lone one begins the first pair
abbrev pub term_text : Bool → List ℕ → List ℕ
term_text true t = t
term_text false t = concat (codes " " ∷ t ∷ codes ")" ∷ [])
