-- The results of several queries in a game, as their callers see them: a list for each query, in order.
use Rattle.std.specs.Prelude.{◌≡◌, ◌≢◌, ℕ, ℤ, List, [], ◌∷◌, Some, map}
use Rattle.cq_position.specs.Games.{Game}
use Rattle.cql_syntax.specs.Hits.{keys}
use Rattle.cql_syntax.specs.Trees.{QueryTree}
use Rattle.cq_shared.specs.declared.verdicts.Verdicts.{Verdicts}

abbrev pub nodes_of : Verdicts → List (List ℕ)
nodes_of v = map (λ f. f.nodes.items) v.found.items

abbrev pub keys_of : Verdicts → List (List ℤ)
keys_of v = map (λ f. f.keys.items) v.found.items

-- the keys of a query if it has a hit, and none if it has none
pub record IsKeyed (game : Game) (q : QueryTree) (nodes : List ℕ) (ks : List ℤ) : Type 0 where
  pub keys : nodes ≢ [] → map Some ks ≡ keys q game
  pub none : nodes ≡ [] → ks ≡ []

-- the keys of each query
abbrev pub HaveKeys : Game → List QueryTree → List (List ℕ) → List (List ℤ) → Type 0
HaveKeys game [] [] [] = Unit {0}
HaveKeys game (q ∷ qs) (ns ∷ nss) (ks ∷ kss) = IsKeyed game q ns ks × HaveKeys game qs nss kss
HaveKeys game qs nss kss = ⊥
