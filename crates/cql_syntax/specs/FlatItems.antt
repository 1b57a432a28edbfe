-- The properties of a flat query's items.
use Rattle.std.specs.Prelude.{Bool, true, false, ◌&&◌, not, List, [], ◌∷◌}
use Rattle.std.specs.List.{list_all, list_any}
use Rattle.cql_syntax.specs.Kinds.{filter_kind}
use Rattle.cql_syntax.specs.Leaves.{same_kind}
use Rattle.cql_syntax.specs.Occurrences.{Occurrence, of_items}
use Rattle.cql_syntax.specs.TreeFaults.{broken_rules, is_long_line, is_fifth_square, is_family}
use Rattle.cql_syntax.specs.TreeLists.{filters_of}
use Rattle.cql_syntax.specs.Trees.{FormTree, any, FilterTrees}

-- some filter in these items is a family
unfoldable pub has_family : FilterTrees → Bool
has_family items = list_any (λ o. is_family o.form) (of_items 0 items)

-- the parts of an `Any` are of the kind that it names
abbrev pub has_its_kind : FormTree → Bool
has_its_kind (any kind fs) = list_all (λ f. same_kind (filter_kind f) kind) (filters_of fs)
has_its_kind f = true

-- each `Any` in these items, and its parts, are of the kind that it names
unfoldable pub kinds_agree : FilterTrees → Bool
kinds_agree items = list_all (λ o. has_its_kind o.form) (of_items 0 items)

abbrev pub is_empty : {X : Type 0} → List X → Bool
is_empty [] = true
is_empty (x ∷ xs) = false

-- a filter breaks no rule in its context, is no line of more than 64 places, and is no `square` with four around it
abbrev pub breaks_none : Occurrence → Bool
breaks_none o = is_empty (broken_rules o) && not (is_long_line o.form) && not (is_fifth_square o.standing.squares o.form)

-- no filter of these items breaks a rule; their weight is not limited
unfoldable pub break_no_rule : FilterTrees → Bool
break_no_rule items = list_all breaks_none (of_items 0 items)
