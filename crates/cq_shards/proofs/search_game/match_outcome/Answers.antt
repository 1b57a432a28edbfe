use Rattle.std.proofs.Common.{ap, sym, ◌∙◌}
use Rattle.cq_shards.specs.Answers.{answer_of}
use Rattle.cq_shards.proofs.search_game.match_outcome.Goals as goal

pub returns-in-Err : goal.returns-in-Err
returns-in-Err g c =
    let query = g.A.Matcher.query c.args.matcher.now in
    c.refused.ensures query ∙ ap (answer_of query c.args.index) (sym c.in-Err.is)
