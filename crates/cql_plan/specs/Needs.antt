-- The needs of a query, at whatever node: a game without them has no hit.
use Rattle.std.specs.Prelude.{ℕ, Bool, true, false, ◌&&◌, ◌||◌}
use Rattle.std.specs.List.{list_any, range_with_len}
use Rattle.cq_position.specs.Games.{Game}
use Rattle.cq_position.specs.Men.{man_number}
use Rattle.cq_position.specs.Search.{SearchedTree, has_man_in}
use Rattle.cq_position.specs.declared.men.Man.TheVariants.{Empty}
use Rattle.cq_symmetry.specs.Images.{is_in}
use Rattle.cql_syntax.specs.Flat.{flat_query}
use Rattle.cql_syntax.specs.Headers.{has_text, is_result}
use Rattle.cql_syntax.specs.Hits.{tree_of}
use Rattle.cql_syntax.specs.Trees.{FilterTree, filter_at, FormTree, designator, tagged, outcome, chain, any, FilterTrees, no_filters, more_filters, QueryTree}
use Rattle.cql_syntax.specs.declared.leaves.Chain.TheVariants.{Or, And, All, Union, Intersect}
use Rattle.cql_syntax.specs.declared.leaves.Kind.TheVariants.{Position, Set}

-- true if one of the twelve men, by the bits of their numbers, is in some searched position, on any square
unfoldable pub one_stands : SearchedTree → ℕ → Bool
one_stands tree men = list_any (λ k. is_in men k && has_man_in tree k) (range_with_len 0 (man_number Empty))

-- a designator without the empty square among its men needs one of them
abbrev pub designator_passes : SearchedTree → ℕ → Bool
designator_passes tree men = is_in men (man_number Empty) || one_stands tree men

-- The needs of a filter, tested on a game: its tags, its result, and its men. Every other filter needs nothing.
unfoldable mutual
  pub passes : SearchedTree → FilterTree → Bool
  passes tree (filter_at at f) = form_passes tree f

  pub form_passes : SearchedTree → FormTree → Bool
  form_passes tree (outcome o) = is_result o tree.game.result
  form_passes tree (tagged field text) = has_text tree.game field text
  form_passes tree (designator d) = designator_passes tree d.men
  form_passes tree (chain And fs) = all_pass tree fs
  form_passes tree (chain All fs) = all_pass tree fs
  form_passes tree (chain Intersect fs) = all_pass tree fs
  form_passes tree (chain Or fs) = some_passes tree fs
  form_passes tree (chain Union fs) = some_passes tree fs
  form_passes tree (any Position fs) = some_passes tree fs
  form_passes tree (any Set fs) = some_passes tree fs
  form_passes tree _ = true

  pub all_pass : SearchedTree → FilterTrees → Bool
  all_pass tree no_filters = true
  all_pass tree (more_filters f fs) = passes tree f && all_pass tree fs

  pub some_passes : SearchedTree → FilterTrees → Bool
  some_passes tree no_filters = false
  some_passes tree (more_filters f fs) = passes tree f || some_passes tree fs

-- true if a game passes the needs of all flat items of a query
abbrev pub query_passes : QueryTree → Game → Bool
query_passes q game = all_pass (tree_of q game) (flat_query q).items
