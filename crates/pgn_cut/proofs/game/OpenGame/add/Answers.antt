use Rattle.std.proofs.Common.{ap, Some}
use Rattle.pgn_cut.proofs.Pushes.{shown_push}
use Rattle.pgn_cut.proofs.game.OpenGame.add.Goals as goal

pub returns-clause-value : goal.returns-clause-value
returns-clause-value c = λ game l shows is.
    shown_push game l c.args.look shows c.args.self.now is _ (ap Some c.unwrap_or.ensures) c.nest-self.ensures.value c.opens_pair-self.ensures c.sees_movetext-self.ensures c.sees_more-self.ensures
