use Rattle.std.proofs.Common.{◌≤◌, ◌^◌, length, arith}
use Rattle.pgn_batches.specs.Games.{games_of, number_of}
use Rattle.cq_workers.proofs.Makings.{begins}
use Rattle.cq_shards.specs.Internal.WorkerAnswers.{size}
use Rattle.cq_shards.specs.Internal.GameRows.{IsRowFor, row_index}
use Rattle.cq_shards.proofs.Makings.{are_rows}
use Rattle.cq_shards.proofs.search_many.search_batch_many.Goals as goal

pub run_workers-requires-clause-games : goal.run_workers-requires-clause-games
run_workers-requires-clause-games g c = λ lifetimes live. let few = c.args.batch.now.few in let e : length (games_of c.args.batch.now) ≤ 2 ^ 32 = omega (arith, few) in e

pub run_workers-requires-clause-nothing : goal.run_workers-requires-clause-nothing
run_workers-requires-clause-nothing g c = λ lifetimes live k d less.
    let batch = c.args.batch.now in begins (IsRowFor (g.A.MultiMatcher.queries c.args.matcher.now) batch) row_index (number_of batch) (size batch)

pub by_query-requires : goal.by_query-requires
by_query-requires g c = are_rows (g.A.MultiMatcher.queries c.args.matcher.now) c.args.batch.now _ c.in_ok-rows.rows.items c.in_ok-rows.ensures.made
