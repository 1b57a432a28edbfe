use Rattle.std.proofs.Common.{◌≡◌, ◌∷◌, take, drop, map, false, ◌&&◌, get_or, None}
use Rattle.std.specs.List.{list_any, range_with_len}
use Rattle.cq_symmetry.specs.Families.{members}
use Rattle.cq_symmetry.specs.Images.{is_in}
use Rattle.cql_syntax.specs.TreeOf.{filter_tree, filter_trees, term_trees, body_tree, part_trees, parts_tree}
use Rattle.cql_syntax.specs.Meaning as meaning
use Rattle.cql_syntax.specs.Values as spec
use Rattle.cql_values.specs.FilterValues.{settles}
use Rattle.cql_plain.specs.Internal.Members.{values_in_members}
use Rattle.cql_values.specs.ValueModel.{as_value, terms_as_values}
use Rattle.cql_plain.specs.Internal.Scopes.{tree_in, value_in}
use Rattle.cql_plain.specs.Internal.Paths.{comes_from}
use Rattle.cql_plain.proofs.PartEnds.{AreParts, AreTurns}
use Rattle.cql_plain.proofs.evaluate.+evaluate.Given as goal

abbrev pub invariant-values_at-loop-filter : goal.invariant-values_at-loop-filter
invariant-values_at-loop-filter l =
    map as_value l.values.items ≡ meaning.values (tree_in l.scope) l.scope.context.now l.scope.names.now (filter_trees (take l.filter-index l.filter-items)) l.node

abbrev pub invariant-terms_at-loop-term : goal.invariant-terms_at-loop-term
invariant-terms_at-loop-term l =
    terms_as_values l.values.items ≡ meaning.term_values (tree_in l.scope) l.scope.context.now l.scope.names.now (term_trees (take l.term-index l.term-items)) l.node

abbrev pub invariant-some_node-loop-k : goal.invariant-some_node-loop-k
invariant-some_node-loop-k l =
    list_any (λ m. spec.holds (value_in l.scope (filter_tree l.part) m)) (drop l.k l.nodes)
    ≡ list_any (λ m. spec.holds (value_in l.scope (filter_tree l.part) m)) l.nodes

abbrev pub invariant-square_at-loop-number : goal.invariant-square_at-loop-number
invariant-square_at-loop-number l =
    list_any (settles l.every (is_in l.set) (λ s. spec.holds (meaning.value (tree_in l.scope) l.scope.context.now ((l.name, s) ∷ l.scope.names.now) (filter_tree l.asked) l.node)))
    (range_with_len 0 l.number) ≡ false

abbrev pub invariant-member_values-loop-k : goal.invariant-member_values-loop-k
invariant-member_values-loop-k l =
    map as_value l.values.items ≡ values_in_members (tree_in l.scope) l.scope.context.now l.scope.names.now (take l.k (members l.family)) (filter_tree l.part) l.node

abbrev pub invariant-lines::parts_ends-loop-part : goal.invariant-lines::parts_ends-loop-part
invariant-lines::parts_ends-loop-part l =
    AreParts l.steps (tree_in l.scope) l.scope.context.now l.scope.names.now l.starts (parts_tree l.parts) (part_trees (drop l.part-index l.part-items)) l.places.items

abbrev pub invariant-lines::repeat-loop-times : goal.invariant-lines::repeat-loop-times
invariant-lines::repeat-loop-times l =
    AreTurns l.steps (meaning.body_pattern (tree_in l.scope) l.scope.context.now l.scope.names.now (body_tree l.body)) l.least l.starts l.times l.here.items l.ends.items

abbrev pub invariant-lines::atom_ends-loop-k : goal.invariant-lines::atom_ends-loop-k
invariant-lines::atom_ends-loop-k l =
    l.ends.items ≡ false ∷ map (λ k. comes_from l.starts (get_or l.steps k None)
    && spec.holds (value_in l.scope (filter_tree l.filter) k)) (range_with_len 0 l.k)
