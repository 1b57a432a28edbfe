use Rattle.std.proofs.Common.{◌<◌, ◌≤◌, List, [], ◌∷◌, ◌++◌, length, take, map, ap, subst, ◌∙◌, rules}
use Rattle.std.proofs.lemmas.List.{take_all}
use Rattle.pgn_cut.specs.declared.span.Span.{Span}
use Rattle.pgn_batches.specs.KeptGames.{KeptGames, kept}
use Rattle.pgn_batches.specs.Queues.{Fills}
use Rattle.pgn_batches.specs.declared.kept_game.KeptGame.{KeptGame}
use Rattle.pgn_batches.proofs.Windows.{few_games, more_kept}
use Rattle.pgn_batches.proofs.cutting.keep_all.Goals as goal

pub add-requires-clause-fills : goal.add-requires-clause-fills
add-requires-clause-fills c =
    let f = c.requires.fills in
    let a = c.requires.archive in
    let game = kept (a.0 ++ c.args.piece.now) in
    (f.0 ++ map game (take c.loop-i.i c.args.spans.now), f.1, c.loop-i.invariant a.0 a.1 a.2 f.0 f.1 f.2, few_games game f.0 c.args.spans.now c.loop-i.i f.3)

pub loop-i-preserved : goal.loop-i-preserved
loop-i-preserved c = λ archive shows long games m was.
    let game = kept (archive ++ c.args.piece.now) in
    let inside : c.loop-i.i < length c.args.spans.now = search rules in
    let before = games ++ map game (take c.loop-i.i c.args.spans.now) in
    let is = c.in_ok-game.ensures archive shows long in
    subst (λ (gs : KeptGames). Fills c.add.new.self gs m)
    (ap (λ (g : KeptGame). before ++ g ∷ []) is ∙ more_kept game games c.args.spans.now c.loop-i.i _ inside)
    (c.in_ok-add.ensures before m (c.loop-i.invariant archive shows long games m was))

pub returns : goal.returns
returns c = λ archive shows long games m was.
    let all : length c.args.spans.now ≤ c.loop-i.i = search rules in
    subst (λ (ss : List Span). Fills c.loop-i.queue (games ++ map (kept (archive ++ c.args.piece.now)) ss) m) (take_all c.loop-i.i c.args.spans.now all)
    (c.loop-i.invariant archive shows long games m was)
