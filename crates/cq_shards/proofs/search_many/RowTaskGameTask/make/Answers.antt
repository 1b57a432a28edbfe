use Rattle.pgn_batches.specs.Games.{number_of}
use Rattle.cq_workers.proofs.Makings.{adds_one}
use Rattle.cq_shards.specs.Internal.WorkerAnswers.{size}
use Rattle.cq_shards.specs.Internal.GameRows.{IsRowFor, row_index}
use Rattle.cq_shards.proofs.Makings.{numbered_rows}
use Rattle.cq_shards.proofs.search_many.RowTaskGameTask.make.Goals as goal

pub returns : goal.returns
returns g c =
    let queries = g.A.MultiMatcher.queries c.args.self.now.matcher.now in
    let batch = c.args.self.now.batch.now in
    adds_one (IsRowFor queries batch) row_index (number_of batch) (size batch) (numbered_rows queries batch) c.args.number c.in_ok-row.row c.in_ok-row.ensures
