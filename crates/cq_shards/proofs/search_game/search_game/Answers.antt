use Rattle.std.proofs.Common.{◌≡◌, ℕ, ◌+◌, subst}
use Rattle.std.specs.Prelude.{IfOk}
use Rattle.pgn_batches.specs.Games.{games_of, number_of}
use Rattle.cq_shards.specs.Answers.{answer_of}
use Rattle.cq_shards.specs.declared.answers.GameAnswer.{GameAnswer}
use Rattle.cq_shards.proofs.Found.{answered}
use Rattle.cq_shards.proofs.search_game.search_game.Goals as goal

pub returns : goal.returns
returns g c =
    let query = g.A.Matcher.query c.args.matcher.now in
    let batch = c.args.batch.now in
    answered query (number_of batch) (games_of batch) c.args.number c.in_ok-outcome.outcome c.match_outcome.result c.in_ok-outcome.ensures
    (subst (λ (n : ℕ). IfOk c.match_outcome.result (λ (a : GameAnswer). a ≡ answer_of query (n + c.args.number) c.in_ok-outcome.outcome)) c.index.ensures c.match_outcome.ensures)
