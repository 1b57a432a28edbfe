use Rattle.cql_syntax.specs.TreeOf.{filter_tree}
use Rattle.cql_candidates.proofs.PairLaw.{paired_own, paired_turned}
use Rattle.cql_candidates.proofs.pairs.cut_pair.Goals as goal

pub returns-then-each_gives_only_name-clause-cut : goal.returns-then-each_gives_only_name-clause-cut
returns-then-each_gives_only_name-clause-cut c =
    paired_own c.args.paired.now (filter_tree c.args.first.now)
    (filter_tree c.args.second.now) c.args.pair c.args.sets.now c.retain_attackers.new.sets (c.is_attack.ensures c.if-not-is_attack.false)
    (c.each_gives_only_name.ensures.first c.if-each_gives_only_name.true) (c.each_gives_only_name.ensures.second c.if-each_gives_only_name.true) c.retain_attackers.ensures

pub returns-then-each_gives_only_name-2-clause-cut : goal.returns-then-each_gives_only_name-2-clause-cut
returns-then-each_gives_only_name-2-clause-cut c =
    paired_turned c.args.paired.now (filter_tree c.args.first.now)
    (filter_tree c.args.second.now) c.args.pair c.converse.result c.args.sets.now c.retain_attackers-then-each_gives_only_name-2.new.sets (c.is_attack.ensures c.if-not-is_attack.false)
    (record { attacks = c.converse.ensures.attacks; attacked = c.converse.ensures.attacked }) (c.each_gives_only_name-2.ensures.first c.if-each_gives_only_name-2.true)
    (c.each_gives_only_name-2.ensures.second c.if-each_gives_only_name-2.true) c.retain_attackers-then-each_gives_only_name-2.ensures
