use Rattle.std.proofs.Common.{sym, subst}
use Rattle.pgn_cut.specs.OpenGames.{IsOpenAt}
use Rattle.pgn_cut.proofs.OpenGames.{opened_at}
use Rattle.pgn_cut.proofs.cutter.Cutter.open_at.Goals as goal

pub returns : goal.returns
returns c = λ fed stands. subst (λ place. IsOpenAt place fed) (sym c.open_place.ensures)
    (opened_at c.lexemes_stand_apart.ensures.order c.lexemes_stand_apart.ensures.each c.lexemes_follow.ensures c.readings_grow.ensures c.readings_are_longest.ensures
    c.open_lexemes_settle.ensures.alone c.open_lexemes_settle.ensures.ends c.args.self.now fed stands)
