use Rattle.std.proofs.Common.{◌∙◌, subst, sym}
use Rattle.pgn_batches.specs.Games.{games_of}
use Rattle.pgn_json.specs.Internal.Texts.{AnswersBatch, HasTaken}
use Rattle.pgn_json.specs.Writing.{sinks_of}
use Rattle.pgn_json.proofs.Writings.{turned}
use Rattle.pgn_json.proofs.game_writer.GameWriterBatchVisitor.visit.Goals as goal

pub write_batch-requires : goal.write_batch-requires
write_batch-requires g c =
    let sinks = sinks_of g.O.Sink.taken g.O.Sink.faults g.E.Sink.taken g.E.Sink.faults in
    let was = c.requires.0 in
    let games = c.requires.1 in
    let taken = c.requires.2 in
    let own = subst (λ m. HasTaken m.now (sinks was.out was.err) (sinks c.args.out.now c.args.err.now) c.args.self.now.faulty games) (sym taken.0.1) taken.1 in
    (taken.0.0, (sinks was.out was.err, games, c.requires.3, own))

pub returns : goal.returns
returns g c = λ was games taken index.
    let sinks = sinks_of g.O.Sink.taken g.O.Sink.faults g.E.Sink.taken g.E.Sink.faults in
    let old = sinks was.out was.err in
    let now = sinks c.write_batch.new.out c.write_batch.new.err in
    let writer = c.args.self.now in
    let after = c.write_batch.new.writer in
    turned was.visitor.mark.now old now after.faulty games (games_of c.args.batch.now) c.write_batch.result (taken.0.0, c.write_batch.ensures.same ∙ taken.0.1)
    (subst (λ m. AnswersBatch m.now old now after.faulty games (games_of c.args.batch.now) c.write_batch.result) taken.0.1
    (c.write_batch.ensures.answers old games index
    (subst (λ m. HasTaken m.now old (sinks c.args.out.now c.args.err.now) writer.faulty games) (sym taken.0.1) taken.1)))
