use Rattle.std.proofs.Common.{sym, subst, [], length}
use Rattle.std.specs.Prelude.{All}
use Rattle.pgn_cut.specs.GameTokens.{HasItsTokens}
use Rattle.pgn_cut.specs.OneGame.{IsGameIn}
use Rattle.pgn_cut.specs.Spans.{EndsBy, AreSpansInOrder}
use Rattle.pgn_cut.proofs.Pieces.{whole_games}
use Rattle.pgn_cut.proofs.whole_archive.cut_whole.Goals as goal

pub finish-requires : goal.finish-requires
finish-requires c = (c.args.archive.now, c.in_ok-feed.ensures.stands [] c.new-cutter.ensures, c.requires)

pub returns-clause-games : goal.returns-clause-games
returns-clause-games c =
    whole_games c.args.archive.now c.new-spans.result.items c.feed.new.spans.items c.finish.new.spans.items c.new-spans.ensures.items (c.in_ok-feed.ensures.games [] c.new-cutter.ensures)
    (c.in_ok-finish.ensures.games c.args.archive.now (c.in_ok-feed.ensures.stands [] c.new-cutter.ensures))
    (c.closed_games_stay.ensures.whole c.args.archive.now).0 (c.closed_games_stay.ensures.whole c.args.archive.now).1

pub returns-clause-order : goal.returns-clause-order
returns-clause-order c = subst (AreSpansInOrder 0 (length c.args.archive.now)) (sym (returns-clause-games c)) (c.games_stand_apart.ensures.order c.args.archive.now)

pub returns-clause-within : goal.returns-clause-within
returns-clause-within c = subst (All (EndsBy (length c.args.archive.now))) (sym (returns-clause-games c)) (c.games_stand_apart.ensures.each c.args.archive.now)

pub returns-clause-tokens : goal.returns-clause-tokens
returns-clause-tokens c = subst (All (HasItsTokens c.args.archive.now)) (sym (returns-clause-games c)) (c.games_have_their_tokens.ensures c.args.archive.now)

pub returns-clause-each : goal.returns-clause-each
returns-clause-each c = subst (All (IsGameIn c.args.archive.now)) (sym (returns-clause-games c)) (c.games_end_once.ensures.each c.args.archive.now)
