use Rattle.std.proofs.lemmas.Option.{IfSome_then}
use Rattle.cql_candidates.specs.NameAttacks.{TestsAttack}
use Rattle.cql_candidates.proofs.AttackLaw.{only_one}
use Rattle.cql_candidates.proofs.attacks.attacked_in_one.Goals as goal

pub returns-then-parts-eq1 : goal.returns-then-parts-eq1
returns-then-parts-eq1 c = IfSome_then c.attacked_by_pair.result c.attacked_by_pair.ensures
    (λ d asks. only_one (TestsAttack c.args.name.now d.now) c.args.parts.now c.index-parts-0.result c.if-parts-eq1.true c.index-parts-0.is asks)
