use Rattle.std.proofs.Common.{◌≤◌, ◌^◌, length, arith}
use Rattle.pgn_batches.specs.Games.{games_of, number_of}
use Rattle.cq_workers.proofs.Makings.{begins}
use Rattle.cq_shards.specs.Internal.WorkerAnswers.{IsAnswerFor, index_of, size}
use Rattle.cq_shards.proofs.Makings.{are_answers}
use Rattle.cq_shards.proofs.search_batch.search_batch.Goals as goal

pub run_workers-requires-clause-games : goal.run_workers-requires-clause-games
run_workers-requires-clause-games g c = λ lifetimes live. let few = c.args.batch.now.few in let e : length (games_of c.args.batch.now) ≤ 2 ^ 32 = omega (arith, few) in e

pub run_workers-requires-clause-nothing : goal.run_workers-requires-clause-nothing
run_workers-requires-clause-nothing g c = λ lifetimes live k d less.
    let batch = c.args.batch.now in begins (IsAnswerFor (g.A.Matcher.query c.args.matcher.now) batch) index_of (number_of batch) (size batch)

pub returns : goal.returns
returns g c = are_answers (g.A.Matcher.query c.args.matcher.now) c.args.batch.now _ c.in_ok-answers.answers.items c.in_ok-answers.ensures.made
