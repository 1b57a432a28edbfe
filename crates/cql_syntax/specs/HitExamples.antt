-- Hits, marks and keys of queries over the opening.
use Rattle.std.specs.Prelude.{◌≡◌, ℕ, Bool, true, false, List, [], ◌∷◌, map, codes, Some, pos}
use Rattle.cql_syntax.specs.Hits.{hits, marks, marked, keys}
use Rattle.cql_syntax.specs.Samples.{opening, at, filters}
use Rattle.cql_syntax.specs.Trees.{FilterTree, plain, sort, comment, QueryTree}
use Rattle.cql_syntax.specs.declared.leaves.Plain.TheVariants.{Wtm, Btm, Ply}

abbrev asked : Bool → List FilterTree → QueryTree
asked variations items = record { variations = variations; match_at = 0; match_text = codes "CQL"; items = filters items }

abbrev btm : FilterTree
btm = at (plain Btm)

abbrev by_ply : Bool → FilterTree
by_ply least = at (sort least (codes "p") (at (plain Ply)))

abbrev remark : List ℕ → FilterTree
remark text = at (comment text)

abbrev wtm : FilterTree
wtm = at (plain Wtm)

pub record HitExamples : Type 0 where
  pub hits_in_variations : hits (asked true (btm ∷ [])) opening ≡ 1 ∷ 3 ∷ []
  pub hits_on_main_line : hits (asked false (btm ∷ [])) opening ≡ 1 ∷ []
  pub no_node_at_which_all_items_hold : hits (asked true (btm ∷ wtm ∷ [])) opening ≡ []
  pub no_items : hits (asked false []) opening ≡ 0 ∷ 1 ∷ 2 ∷ []
  pub marks_in_order :
      marks (asked true (remark (codes "a") ∷ btm ∷ remark (codes "b") ∷ [])) ≡ codes "CQL" ∷ codes "a" ∷ codes "b" ∷ []
  pub greatest_key : keys (asked true (by_ply false ∷ [])) opening ≡ Some (pos 2) ∷ []
  pub least_key : keys (asked true (btm ∷ by_ply true ∷ by_ply false ∷ [])) opening ≡ Some (pos 1) ∷ Some (pos 1) ∷ []
  pub least_of_several : keys (asked true (by_ply true ∷ [])) opening ≡ Some (pos 0) ∷ []
  pub no_key : keys (asked true (btm ∷ [])) opening ≡ []
  pub marked_nodes :
      map (λ n. n.comments) (marked (asked false (wtm ∷ remark (codes " y  z ") ∷ remark (codes " ") ∷ [])) opening).nodes
      ≡ (codes "CQL" ∷ codes "y z" ∷ []) ∷ [] ∷ (codes "x" ∷ codes "CQL" ∷ codes "y z" ∷ []) ∷ [] ∷ []
