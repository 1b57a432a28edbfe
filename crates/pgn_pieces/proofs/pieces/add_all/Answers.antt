use Rattle.std.proofs.Common.{◌<◌, length, false, refl, ◌∙◌, arith, rules}
use Rattle.pgn_cut.specs.declared.span.Span.{Span}
use Rattle.pgn_pieces.proofs.Fills.{adds_none, adds_both, adds_next, end_next, ends_later}
use Rattle.pgn_pieces.proofs.pieces.add_all.Goals as goal

-- the value read past the end
abbrev none : Span
none = record { start = 0; end = 0; first = false }

pub loop-game-init : goal.loop-game-init
loop-game-init c = record { adds = adds_none c.args.least c.args.open_piece c.args.text.now; end = refl }

pub with-requires : goal.with-requires
with-requires c =
    let o = c.requires.order in
    let i = c.loop-game.game-index in
    let less : i < length c.args.games.now = search rules in
    let l = ends_later c.args.open_piece.end o.0 c.args.games.now i none o.2 less in
    let few = o.1 in
    let later = l.0 in
    let by = l.1 in
    record { order = (omega (arith, later, c.loop-game.invariant.end), omega (arith, by, few)) }

pub loop-game-preserved : goal.loop-game-preserved
loop-game-preserved c =
    let i = c.loop-game.game-index in
    let less : i < length c.args.games.now = search rules in record {
      adds = adds_next c.args.least c.args.open_piece c.in_ok-now.now c.args.games.now i none c.args.text.now c.with.new.text less
          (adds_both c.args.least c.args.open_piece c.loop-game.now c.in_ok-now.now _ _ c.args.text.now c.loop-game.text c.with.new.text c.loop-game.invariant.adds c.in_ok-now.ensures.adds);
      end = c.in_ok-now.ensures.end ∙ end_next c.args.open_piece.end c.args.games.now i none less;
    }
