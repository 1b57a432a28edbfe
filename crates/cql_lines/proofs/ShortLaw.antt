-- No way has more nodes than the tree.
use Rattle.std.proofs.Common.{◌≡◌, ℕ, ◌+◌, ◌<◌, ◌≤◌, Bool, true, false, List, [], ◌∷◌, length, sym, ap, ◌∙◌, Some, None, inl, inr, arith}
use Rattle.std.proofs.lemmas.Bool.{cases_lt}
use Rattle.std.proofs.lemmas.Option.{slice_get_past}
use Rattle.cql_lines.specs.declared.automaton.Transition.{Transition}
use Rattle.cql_lines.specs.declared.shape.TreeNode.{TreeNode}
use Rattle.cq_common.specs.Walks.{IsWalk}
use Rattle.cql_lines.proofs.Below.{Below}
use Rattle.cql_lines.specs.Internal.Lengths.{IsGreatestOrZero}
use Rattle.cql_lines.specs.Limits.{most_nodes}
use Rattle.cql_lines.specs.Shapes.{joined, joined_by, Edge}
use Rattle.cql_lines.specs.Tables.{holds}

module _ (primary : Bool) (tree_nodes : List TreeNode) (below : (n p : ℕ) → joined primary tree_nodes n ≡ Some p → p < n) where
  joined_within : (n p : ℕ) → joined primary tree_nodes n ≡ Some p → n < length tree_nodes
  joined_within n p e = elim (cases_lt n (length tree_nodes)) [
    | inl low ↦ low
    | inr past ↦ absurd (let none : joined primary tree_nodes n ≡ None = ap (joined_by primary) (slice_get_past tree_nodes n (omega arith)) in let both = sym none ∙ e in cc)
  ]

  down_short : (n : ℕ) (w : List ℕ) → n < length tree_nodes → IsWalk (Edge false primary tree_nodes) n w → n + length w < length tree_nodes
  down_short n [] low f = omega arith
  down_short n (c ∷ w) low f = (let a = below c n f.0 in let h = down_short c w (joined_within c n f.0) f.1 in omega arith)

  up_short : (n : ℕ) (w : List ℕ) → IsWalk (Edge true primary tree_nodes) n w → length w ≤ n
  up_short n [] f = omega arith
  up_short n (c ∷ w) f = (let a = below n c f.0 in let h = up_short c w f.1 in omega arith)

  pub below_short : (words : List ℕ) (rules : List Transition) (n j m : ℕ) → length tree_nodes ≤ most_nodes → IsGreatestOrZero (Below (holds words) rules (Edge false primary tree_nodes) j n) m → m < 4294967295
  below_short words rules n j m few g = elim (cases_lt 0 m) [
    | inl some ↦
        let r = g.reached some in
        let h = down_short r.0 r.2.0 (joined_within r.0 n r.1) r.2.1 in
        let e = r.2.2 in
        omega arith
    | inr none ↦ omega arith
  ]

  pub above_short : (words : List ℕ) (rules : List Transition) (n j m : ℕ) → n < length tree_nodes → length tree_nodes ≤ most_nodes
      → IsGreatestOrZero (Below (holds words) rules (Edge true primary tree_nodes) j n) m → m < 4294967295
  above_short words rules n j m low few g = elim (cases_lt 0 m) [
    | inl some ↦
        let r = g.reached some in
        let h = up_short r.0 r.2.0 r.2.1 in
        let b = below n r.0 r.1 in
        let e = r.2.2 in
        omega arith
    | inr none ↦ omega arith
  ]
