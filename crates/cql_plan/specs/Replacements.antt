-- Filters that replace others, and the properties that they keep.
use Rattle.std.specs.Prelude.{◌≡◌, ℕ, ◌+◌, ◌<◌, ◌≤◌, Bool, true, false, ◌&&◌, ◌||◌, not, List, []}
use Rattle.std.specs.List.{list_all, list_any}
use Rattle.cq_position.specs.Search.{SearchedTree}
use Rattle.cql_syntax.specs.FlatItems.{has_its_kind, breaks_none}
use Rattle.cql_syntax.specs.Hits.{is_hit, item_keys, all_keys}
use Rattle.cql_syntax.specs.Kinds.{filter_kind}
use Rattle.cql_syntax.specs.Leaves.{same_kind}
use Rattle.cql_syntax.specs.Meaning.{Names, value as value_of, values}
use Rattle.cql_syntax.specs.Occurrences.{TypingContext, Occurrence, part_of, occurrences, sorts_with}
use Rattle.cql_syntax.specs.TreeFaults.{is_family}
use Rattle.cql_syntax.specs.TreeLists.{filters_of}
use Rattle.cql_syntax.specs.Trees.{FilterTree, FilterTrees, no_filters, more_filters}
use Rattle.cql_syntax.specs.Unplaced.{same_unplaced}
use Rattle.cql_syntax.specs.Values.{Value, holds, has}
use Rattle.cql_syntax.specs.declared.leaves.Kind.{Kind}
use Rattle.cql_syntax.specs.declared.leaves.Kind.TheVariants.{Position, Set, Number}
use Rattle.cql_columns.specs.Costs.{filter_cost, filters_cost}

-- The property of each filter in the items of a flat query: it is no family, the parts of an `Any` are of its kind, and it breaks no rule.
abbrev pub is_sound : Occurrence → Bool
is_sound o = (not (is_family o.form) && has_its_kind o.form) && breaks_none o

-- the second filter has the values of the first, may be in any place of the first, and costs no more looks
pub record StandsFor (f g : FilterTree) : Type 0 where
  pub value : (tree : SearchedTree) (names : Names) (n : ℕ) → value_of tree [] names g n ≡ value_of tree [] names f n
  pub keys : (tree : SearchedTree) (found : List ℕ) → item_keys tree found g ≡ item_keys tree found f
  pub kind : filter_kind g ≡ filter_kind f
  pub sorts : (before : ℕ) → sorts_with before g ≡ sorts_with before f
  pub sound : (s : TypingContext) → list_all is_sound (occurrences s f) ≡ true → list_all is_sound (occurrences s g) ≡ true
  pub cost : (searched : ℕ) → filter_cost searched g ≤ filter_cost searched f

-- as many filters, each a replacement of the one in its place
abbrev pub AllStandFor : FilterTrees → FilterTrees → Type 0
AllStandFor no_filters no_filters = Unit {0}
AllStandFor (more_filters f fs) (more_filters g gs) = StandsFor f g × AllStandFor fs gs
AllStandFor fs gs = ⊥

-- a list of one filter

abbrev pub alone : FilterTree → FilterTrees
alone f = more_filters f no_filters

-- true if there is a filter that is the same but for its places
abbrev pub has_like : FilterTrees → FilterTree → Bool
has_like no_filters f = false
has_like (more_filters g gs) f = same_unplaced g f || has_like gs f

-- true if the value of a member decides that of the family: it holds, or in a set it has the square
abbrev pub tells : Kind → ℕ → Value → Bool
tells Position s v = holds v
tells Set s v = has v s
tells Number s v = false

abbrev pub some_tells : Kind → ℕ → SearchedTree → Names → ℕ → FilterTrees → Bool
some_tells kind s tree names n fs = list_any (tells kind s) (values tree [] names fs n)

-- members are of the kind, and may be parts of the whole
abbrev pub is_member : Kind → TypingContext → FilterTree → Bool
is_member kind s f = same_kind (filter_kind f) kind && list_all is_sound (occurrences (part_of s kind) f)

abbrev pub are_members : Kind → TypingContext → FilterTrees → Bool
are_members kind s fs = list_all (is_member kind s) (filters_of fs)

-- the members after an addition decide the family as those before it and the added filters do
pub record Gathers (kind : Kind) (before after fs : FilterTrees) : Type 0 where
  pub told : (tree : SearchedTree) (names : Names) (n s : ℕ) → s < 64
      → some_tells kind s tree names n after ≡ (some_tells kind s tree names n before || some_tells kind s tree names n fs)
  pub members : (s : TypingContext) → are_members kind s before ≡ true → are_members kind s fs ≡ true → are_members kind s after ≡ true
  pub cost : (searched : ℕ) → filters_cost searched after ≤ filters_cost searched before + filters_cost searched fs

-- The second items hold in a game exactly as the first ones do, have the same sort keys, and cost no more looks.
pub record HaveSameHits (items others : FilterTrees) : Type 0 where
  pub here : (tree : SearchedTree) (n : ℕ) → is_hit tree others n ≡ is_hit tree items n
  pub keys : (tree : SearchedTree) (found : List ℕ) → all_keys tree found others ≡ all_keys tree found items
  pub cost : (searched : ℕ) → filters_cost searched others ≤ filters_cost searched items
