use Rattle.std.proofs.Common.{◌≡◌, take}
use Rattle.pgn_pieces.specs.Pieces.{end_of}
use Rattle.pgn_pieces.specs.State.{AddsGames}
use Rattle.pgn_pieces.proofs.pieces.add_all.Given as goal

-- the games so far were added
abbrev pub invariant-loop-game : goal.invariant-loop-game
invariant-loop-game l = record {
  adds : AddsGames l.least l.fn.open_piece l.now (take l.game-index l.games) l.fn.text l.text;
  end : l.now.end ≡ end_of l.fn.open_piece.end (take l.game-index l.games);
}
