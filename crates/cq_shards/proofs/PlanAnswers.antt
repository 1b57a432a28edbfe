-- The queries of a plan one by one, and the results of each.
use Rattle.std.proofs.Common.{◌≡◌, ◌≢◌, ℕ, ◌<◌, ◌≤◌, ℤ, List, [], ◌∷◌, length, get_or, map, drop, Some, zero, suc, ap, sym, ◌∙◌, arith}
use Rattle.std.proofs.lemmas.List.{get_or-map, length-map}
use Rattle.cq_position.specs.Games.{Game}
use Rattle.cql_syntax.specs.Hits.{hits, keys}
use Rattle.cql_syntax.specs.TreeOf.{query_tree}
use Rattle.cql_syntax.specs.Trees.{QueryTree}
use Rattle.cql_syntax.specs.declared.typed_query.TypedQuery.{TypedQuery}
use Rattle.cql_syntax.specs.QueryTrees.{trees_of}
use Rattle.cq_shared.specs.Verdicts.{HaveKeys, IsKeyed}
use Rattle.cq_shards.specs.ReadResults.{ReadResult}
use Rattle.cq_shards.specs.Internal.GameRows.{answers_back}
use Rattle.cq_shards.specs.declared.answers.GameAnswer.{GameAnswer}

pub tree_at : (queries : List TypedQuery) (k : ℕ) (q : TypedQuery) → k < length queries → q ≡ get_or queries k q → query_tree q.query ≡ get_or (trees_of queries) k (query_tree q.query)
tree_at queries k q inside at = ap (λ (p : TypedQuery). query_tree p.query) at ∙ sym (get_or-map (λ (p : TypedQuery). query_tree p.query) queries k q (query_tree q.query) inside)

pub tree_count : (queries : List TypedQuery) → length (trees_of queries) ≡ length queries
tree_count queries = length-map queries (λ (p : TypedQuery). query_tree p.query)

pub found_count : (queries : List TypedQuery) (game : Game) (found : List (List ℕ)) → found ≡ map (λ q. hits q game) (trees_of queries) → length found ≡ length queries
found_count queries game found are = ap length are ∙ length-map (trees_of queries) (λ q. hits q game) ∙ tree_count queries

-- the queries from the first one on are all
pub from_first : (queries : List QueryTree) (n index : ℕ) (r : ReadResult) (answers : List GameAnswer) → n ≤ 0 → answers ≡ answers_back (drop n queries) index r
    → answers ≡ answers_back queries index r
from_first queries n index r answers none are = are ∙ ap (λ k. answers_back (drop k queries) index r) (let e : n ≡ 0 = omega (arith, none) in e)

-- the hits and the keys of one query
pub hits_at : (queries : List QueryTree) (game : Game) (found : List (List ℕ)) (k : ℕ) (q : QueryTree) → k < length queries → q ≡ get_or queries k q
    → found ≡ map (λ p. hits p game) queries → get_or found k [] ≡ hits q game
hits_at queries game found k q inside at are = ap (λ fs. get_or fs k []) are ∙ get_or-map (λ p. hits p game) queries k q [] inside ∙ ap (λ p. hits p game) (sym at)

keyed_at : (game : Game) (queries : List QueryTree) (found : List (List ℕ)) (kss : List (List ℤ)) (k : ℕ) (d : QueryTree) → HaveKeys game queries found kss → k < length queries
    → IsKeyed game (get_or queries k d) (get_or found k []) (get_or kss k [])
keyed_at game (q ∷ qs) (ns ∷ nss) (ks ∷ kss) zero d have inside = have.0
keyed_at game (q ∷ qs) (ns ∷ nss) (ks ∷ kss) (suc k) d have inside = keyed_at game qs nss kss k d have.1 (omega (arith, inside))
keyed_at game [] found kss k d have inside = absurd (omega (arith, inside))
keyed_at game (q ∷ qs) [] [] k d have inside = absurd have
keyed_at game (q ∷ qs) [] (ks ∷ kss) k d have inside = absurd have
keyed_at game (q ∷ qs) (ns ∷ nss) [] k d have inside = absurd have

-- the query with this number, and its results
pub record FoundAt (queries : List QueryTree) (found : List (List ℕ)) (kss : List (List ℤ)) (k : ℕ) : Type 0 where
  pub query : QueryTree
  pub nodes : List ℕ
  pub values : List ℤ
  pub inside : k < length queries
  pub at : query ≡ get_or queries k query
  pub are : nodes ≡ get_or found k []
  pub these : values ≡ get_or kss k []

pub keys_at : (game : Game) (queries : List QueryTree) (found : List (List ℕ)) (kss : List (List ℤ)) (k : ℕ) → HaveKeys game queries found kss → (one : FoundAt queries found kss k)
    → one.nodes ≢ [] → map Some one.values ≡ keys one.query game
keys_at game queries found kss k have one some =
    let keyed = keyed_at game queries found kss k one.query have one.inside in
    ap (map Some) one.these ∙ keyed.keys (λ none. some (one.are ∙ none)) ∙ ap (λ p. keys p game) (sym one.at)
