use Rattle.std.proofs.Common.{ap, subst}
use Rattle.cq_position.specs.Games.{HaveNotes}
use Rattle.pgn_tree.proofs.game.Game.len.Goals as goal

pub returns-clause-notes : goal.returns-clause-notes
returns-clause-notes c = subst HaveNotes (ap (λ g. g.nodes) c.self.view_is) c.self.invariant.notes
