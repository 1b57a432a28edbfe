use Rattle.std.proofs.Common.{arith}
use Rattle.std.proofs.lemmas.Result.{err_from_is_err_and}
use Rattle.cq_query_files.proofs.PiecesRead.{all_read, read_on, refused_at}
use Rattle.cq_query_files.proofs.query_files.read_pieces.Goals as goal

pub loop-piece-preserved : goal.loop-piece-preserved
loop-piece-preserved c =
    read_on c.args.pieces.now c.loop-piece.piece-index _ c.loop-piece.queries.items c.push.new.self.items c.in_ok-query.query c.loop-piece.invariant
    c.loop-piece-test.true c.in_ok-query.ensures c.in_ok-push.ensures.items

pub returns-in_err-query : goal.returns-in_err-query
returns-in_err-query c =
    let p = err_from_is_err_and c.from_residual.result c.from_residual.ensures.1 in
    let count = c.loop-piece.invariant.count in
    let read = c.len.ensures in
    rw (p.1, p.2)
    (refused_at c.args.pieces.now c.loop-piece.piece-index _ _ c.loop-piece.queries.items c.in_err-query.field-0.0 c.loop-piece.invariant c.loop-piece-test.true
    (omega (arith, count, read)) c.in_err-query.ensures)

pub returns : goal.returns
returns c = all_read c.args.pieces.now c.loop-piece.piece-index c.loop-piece.queries.items c.loop-piece.invariant c.loop-piece-test.false
