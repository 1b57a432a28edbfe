use Rattle.std.proofs.Common.{sym, ◌∙◌}
use Rattle.std.proofs.lemmas.Bool.{false≢true}
use Rattle.cq_san.proofs.ByOrigins.{castled, not_castled}
use Rattle.cq_san.proofs.reading.castling.Goals as goal
use Rattle.cq_san.proofs.reading.castling.Goals.{else-is_castling-via-then-is_castling+else-is_legal, else-is_castling-via-else-is_castling}

pub returns-then-is_legal : goal.returns-then-is_legal
returns-then-is_legal c =
    castled c.args.position.now c.args.kingside c.side.result c.castling_move-m.result c.side.ensures.side c.castling_move-m.ensures
    (sym c.is_castling.ensures ∙ c.if-is_castling.true) (c.is_legal.ensures.0 c.if-is_legal.true)

pub returns-else-is_castling : goal.returns-else-is_castling
returns-else-is_castling c =
    let refused = not_castled c.args.position.now c.args.kingside c.side.result c.castling_move-m.result c.side.ensures.side c.castling_move-m.ensures in
    elim c.else-is_castling.branch [
      | else-is_castling-via-then-is_castling+else-is_legal w ↦
          refused (λ castling legal. false≢true (sym w.if-is_legal.false ∙ w.is_legal.ensures.1 legal))
      | else-is_castling-via-else-is_castling w ↦
          refused (λ castling legal. false≢true (sym w.if-is_castling.false ∙ c.is_castling.ensures ∙ castling))
    ]
