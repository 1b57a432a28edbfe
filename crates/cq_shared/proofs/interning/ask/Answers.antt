use Rattle.std.proofs.Common.{refl}
use Rattle.cq_shared.proofs.Gaining.{asked_set, shown_set}
use Rattle.cq_shared.proofs.interning.ask.Goals as goal

pub returns-clause-parts : goal.returns-clause-parts
returns-clause-parts c = shown_set c.args.parts.now.items c.args.number c.index_mut-part.result.now _ c.index_mut-part.ensures.value refl

pub returns-clause-asked : goal.returns-clause-asked
returns-clause-asked c =
    asked_set c.args.parts.now.items c.args.number c.index_mut-part.result.now _ c.args.owner c.requires c.index_mut-part.ensures.value c.in_ok-push.ensures.items
