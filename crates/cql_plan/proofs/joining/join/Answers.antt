use Rattle.cql_syntax.specs.TreeOf.{filters_tree}
use Rattle.cql_plan.proofs.Sound.{sound_from, family_from, kinds_from, rules_from}
use Rattle.cql_plan.proofs.Standing.{items_stand, same_hits}
use Rattle.cql_plan.proofs.joining.join.Goals as goal

pub invariant_of-result : goal.invariant_of-result
invariant_of-result c =
    let query = c.args.query.now in
    let items = filters_tree query.items in
    let sound = items_stand items (filters_tree c.in_ok-items.items) c.in_ok-items.ensures 0 (sound_from items query.flat query.kinds query.accepted) in
    record {
      flat = family_from (filters_tree c.in_ok-items.items) sound;
      kinds = kinds_from (filters_tree c.in_ok-items.items) sound;
      accepted = rules_from (filters_tree c.in_ok-items.items) sound;
    }

pub returns-clause-hits : goal.returns-clause-hits
returns-clause-hits c = same_hits (filters_tree c.args.query.now.items) _ c.in_ok-items.ensures
