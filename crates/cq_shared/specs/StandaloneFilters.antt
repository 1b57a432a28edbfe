-- Filters that can be the only item of a flat query.
use Rattle.std.specs.Prelude.{Bool}
use Rattle.std.specs.List.{list_all}
use Rattle.cql_syntax.specs.Occurrences.{occurrences, top_item}
use Rattle.cql_syntax.specs.Trees.{FilterTree}
use Rattle.cql_plan.specs.Replacements.{is_sound}

-- a filter and all in it, as the only item
unfoldable pub stands_alone : FilterTree → Bool
stands_alone f = list_all is_sound (occurrences (top_item 0) f)
