use Rattle.std.proofs.Common.{◌≡◌, ◌∙◌, ap, arith, length, IfOk, subst}
use Rattle.cq_position.specs.Search.{nodes_in}
use Rattle.cql_values.specs.Trees.{searched_tree}
use Rattle.cql_syntax.specs.Hits.{hits}
use Rattle.cql_syntax.specs.TreeOf.{filters_tree, query_tree}
use Rattle.cql_plan.specs.Plans.{query_of}
use Rattle.cql_plan.proofs.Matched.{none_found, asked_keys}
use Rattle.cql_plan.proofs.matching.match_game.Goals as goal

pub returns-then-not-may_hold-clause-nodes : goal.returns-then-not-may_hold-clause-nodes
returns-then-not-may_hold-clause-nodes g c =
    c.new.ensures.items
    ∙ none_found (hits (query_tree (query_of c.args.plan.now).query) c.args.game.now) c.may_hold.result c.may_hold.ensures.hit c.if-not-may_hold.true

pub returns-clause-nodes : goal.returns-clause-nodes
returns-clause-nodes g c =
    subst (λ ns. IfOk c.find.result (λ v. v.nodes.items ≡ ns)) (c.joined.ensures.asked.hits c.args.game.now) c.find.ensures.nodes

pub returns-clause-keys : goal.returns-clause-keys
returns-clause-keys g c =
    asked_keys (query_tree (query_of c.args.plan.now).query) c.args.game.now c.joined.result.now.variations (filters_tree c.joined.result.now.items)
    c.joined.ensures.asked c.find.result c.find.ensures.nodes c.find.ensures.keys

pub returns-clause-least : goal.returns-clause-least
returns-clause-least g c = λ passes.
    let found = c.find.ensures.least in
    rw (c.joined.ensures.asked.searched) at found

pub returns-clause-most : goal.returns-clause-most
returns-clause-most g c =
    omega (
      arith,
      c.find.ensures.most,
      c.joined.ensures.asked.cost c.args.game.now,
      ap (λ v. length (nodes_in (searched_tree c.args.game.now v))) c.joined.ensures.asked.searched,
    )
