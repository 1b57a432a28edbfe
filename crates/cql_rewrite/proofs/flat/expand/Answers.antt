use Rattle.std.proofs.Common.{◌≡◌, ◌∙◌, ap}
use Rattle.cql_syntax.specs.FlatItems.{has_family, kinds_agree, break_no_rule}
use Rattle.cql_syntax.specs.TreeOf.{query_tree}
use Rattle.cql_syntax.proofs.FlatFacts.{flat_families, flat_kinds, flat_rules}
use Rattle.cql_rewrite.proofs.flat.expand.Goals as goal

pub invariant_of-result : goal.invariant_of-result
invariant_of-result c =
    let q = query_tree c.args.query.now.query in
    let accepted = c.args.query.now.accepted in
    let written = c.args.query.now.written in
    record {
      flat = ap has_family c.in_ok-items.ensures ∙ flat_families q accepted written;
      kinds = ap kinds_agree c.in_ok-items.ensures ∙ flat_kinds q accepted written;
      accepted = ap break_no_rule c.in_ok-items.ensures ∙ flat_rules q accepted written;
    }
