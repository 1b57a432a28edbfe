use Rattle.std.proofs.Common.{◌++◌, ◌∙◌, ap, refl, arith}
use Rattle.pgn_pieces.specs.Pieces.{after}
use Rattle.pgn_pieces.specs.Table.{line}
use Rattle.pgn_pieces.proofs.Fills.{adds_to_open, adds_full}
use Rattle.pgn_pieces.proofs.state.OpenPiece.with.Goals as goal

pub returns-then-game-self-clause-adds : goal.returns-then-game-self-clause-adds
returns-then-game-self-clause-adds c = adds_to_open c.args.least c.args.self _ c.args.game c.args.text.now refl refl refl (omega (arith, c.if-game-self.true, c.args.self.begun))

pub returns-clause-adds : goal.returns-clause-adds
returns-clause-adds c =
    adds_full c.args.least c.args.self _ c.args.game c.args.text.now c.push_line.new.text (c.after.ensures ∙ ap after c.piece_to-piece.ensures) refl refl
    (omega (arith, c.if-game-self.false, c.args.self.begun)) (c.in_ok-push_line.ensures ∙ ap (λ piece. c.args.text.now ++ line piece) c.piece_to-piece.ensures)
