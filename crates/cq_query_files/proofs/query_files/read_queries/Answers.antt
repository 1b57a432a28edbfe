use Rattle.std.proofs.Common.{ap, ◌∙◌, arith, length}
use Rattle.cq_query_files.proofs.Pieces.{texts_of}
use Rattle.cq_query_files.proofs.PiecesRead.{pieces_read}
use Rattle.cq_query_files.proofs.query_files.read_queries.Goals as goal

pub returns : goal.returns
returns c =
    let count = c.len.ensures in
    let few = c.if-len-gt-QUERIES_LIMIT.false in
    let same = ap length c.as_slice.ensures.value in
    pieces_read _ c.args.text.now c.as_slice.result.now c.read_pieces.result c.if-text-gt-FILE_LIMIT.false (ap texts_of c.as_slice.ensures.value ∙ c.in_ok-pieces.ensures)
    (omega (arith, count, few, same)) c.read_pieces.ensures
