-- The results of the form that is evaluated are those of the query itself.
use Rattle.std.proofs.Common.{◌≡◌, ◌≢◌, ℕ, Bool, true, false, List, [], ◌∷◌, map, Some, Result, Ok, Err, IfOk, refl, ◌∙◌}
use Rattle.cq_position.specs.Games.{Game}
use Rattle.cql_values.specs.Trees.{searched_tree}
use Rattle.cql_syntax.specs.Hits.{hits, hits_in, keys, all_keys}
use Rattle.cql_syntax.specs.Trees.{FilterTrees, QueryTree}
use Rattle.cql_plan.specs.Plans.{IsJoinedFormOf}
use Rattle.cql_plan.specs.declared.verdict.Verdict.{Verdict}

-- a game that fails the needs has no hit
pub none_found : (ns : List ℕ) (may_hold : Bool) → (ns ≢ [] → may_hold ≡ true) → may_hold ≡ false → [] ≡ ns
none_found [] may_hold some away = refl
none_found (n ∷ ns) may_hold some away = absurd (let holds = some (λ none. cc) in cc)

pub asked_keys : (q : QueryTree) (game : Game) (searched : Bool) (asked : FilterTrees) → IsJoinedFormOf q searched asked
    → {E : Type 0} (found : Result Verdict E) → IfOk found (λ v. v.nodes.items ≡ hits_in (searched_tree game searched) asked)
    → IfOk found (λ v. v.nodes.items ≢ [] → map Some v.keys.items ≡ all_keys (searched_tree game searched) v.nodes.items asked)
    → IfOk found (λ v. v.nodes.items ≢ [] → map Some v.keys.items ≡ keys q game)
asked_keys q game searched asked is (Ok v) nodes given = λ some. given some ∙ is.keys game v.nodes.items (nodes ∙ is.hits game)
asked_keys q game searched asked is (Err fault) nodes given = given
