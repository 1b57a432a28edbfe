use Rattle.std.proofs.Common.{◌∙◌}
use Rattle.cql_columns.specs.Scopes.{tree_in}
use Rattle.cql_operators.proofs.LinesLaw.{parent_in, searched_in, spots_more}
use Rattle.cql_operators.proofs.patterns.push_node.Goals as goal

pub push-requires-clause-parent : goal.push-requires-clause-parent
push-requires-clause-parent c =
    parent_in (tree_in c.args.scope.now) c.args.k _ _ c.requires.tree c.requires.before c.parent.ensures.value

pub push-requires-clause-searched : goal.push-requires-clause-searched
push-requires-clause-searched c =
    searched_in (tree_in c.args.scope.now) c.args.k _ _ _ c.requires.tree c.requires.before c.parent.ensures.value
    c.is_searched-searched.ensures

pub returns-clause-more : goal.returns-clause-more
returns-clause-more c =
    c.in_ok-push.ensures.more
    ∙ spots_more (tree_in c.args.scope.now) c.args.k _ _ _ _ c.requires.before c.parent.ensures.value c.is_searched-searched.ensures
    c.is_first_child-first.ensures
