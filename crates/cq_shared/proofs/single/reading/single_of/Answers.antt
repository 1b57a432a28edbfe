use Rattle.std.proofs.Common.{◌≡◌, ◌∙◌, ap, ap₂}
use Rattle.cql_syntax.specs.FlatItems.{has_family, kinds_agree, break_no_rule}
use Rattle.cql_syntax.specs.TreeOf.{filter_tree, filters_tree}
use Rattle.cql_syntax.specs.Trees.{with_filter}
use Rattle.cql_plan.specs.Replacements.{alone}
use Rattle.cq_shared.proofs.StandAlone.{alone_family, alone_kinds, alone_rules}
use Rattle.cq_shared.proofs.single.reading.single_of.Goals as goal

pub invariant_of-query : goal.invariant_of-query
invariant_of-query c =
    let f = filter_tree c.args.filter.now in
    let is : filters_tree c.push.new.self ≡ alone f = c.in_ok-push.ensures.tree ∙ ap₂ with_filter c.new-items.ensures.tree c.in_ok-copied.ensures in
    record {
      flat = ap has_family is ∙ alone_family f c.requires;
      kinds = ap kinds_agree is ∙ alone_kinds f c.requires;
      accepted = ap break_no_rule is ∙ alone_rules f c.requires;
    }
