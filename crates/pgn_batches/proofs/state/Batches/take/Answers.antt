use Rattle.std.proofs.Common.{rules, arith}
use Rattle.pgn_batches.proofs.Filling.{took_none, took_some}
use Rattle.pgn_batches.proofs.state.Batches.take.Goals as goal

pub feed-requires-clause-stands : goal.feed-requires-clause-stands
feed-requires-clause-stands c = let s = c.requires.stands in let t = s.2.taken in let r = c.requires.room in (s.0, s.1, s.2, omega arith)

pub returns-then-is_empty-clause-took : goal.returns-then-is_empty-clause-took
returns-then-is_empty-clause-took c =
    took_none c.end.result c.args.self.now c.end.new.self c.args.piece.now c.requires.low (let e = c.is_empty.ensures in let t = c.if-is_empty.true in search rules)
    c.end.ensures.stands c.end.ensures.ended c.end.ensures.limit c.end.ensures.taken

pub returns-clause-took : goal.returns-clause-took
returns-clause-took c =
    took_some c.feed.result c.args.self.now c.feed.new.self c.args.piece.now (let e = c.is_empty.ensures in let t = c.if-is_empty.false in search rules) c.requires.room c.feed.ensures.stands
    c.feed.ensures.reads c.feed.ensures.limit c.feed.ensures.taken
