use Rattle.std.proofs.Common.{◌∙◌, ap, sym, refl}
use Rattle.std.specs.Prelude.{bit_or}
use Rattle.cql_operators.proofs.OtherNodesLaw.{raised_at, raised_none}
use Rattle.cql_operators.proofs.from_other_nodes.raise.Goals as goal

pub returns-in-Some : goal.returns-in-Some
returns-in-Some c = raised_at c.args.game.now.nodes c.args.k c.in-Some.parent _ c.args.more _ c.args.back.now.items c.requires.tree
    (sym c.parent.ensures.value ∙ c.in-Some.is) c.requires.count (ap (λ set. bit_or set c.args.more) c.index_mut.ensures.value)

pub returns-in_default : goal.returns-in_default
returns-in_default c = raised_none c.args.game.now.nodes c.args.k c.args.more _ _ (sym c.parent.ensures.value ∙ c.in_default.is) refl
