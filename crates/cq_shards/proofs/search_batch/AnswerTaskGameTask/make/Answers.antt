use Rattle.pgn_batches.specs.Games.{number_of}
use Rattle.cq_workers.proofs.Makings.{adds_one}
use Rattle.cq_shards.specs.Internal.WorkerAnswers.{IsAnswerFor, index_of, size}
use Rattle.cq_shards.proofs.Makings.{numbered_answers}
use Rattle.cq_shards.proofs.search_batch.AnswerTaskGameTask.make.Goals as goal

pub returns : goal.returns
returns g c =
    let query = g.A.Matcher.query c.args.self.now.matcher.now in
    let batch = c.args.self.now.batch.now in
    adds_one (IsAnswerFor query batch) index_of (number_of batch) (size batch) (numbered_answers query batch) c.args.number c.in_ok-answer.answer c.in_ok-answer.ensures
