use Rattle.std.proofs.Common.{drop, arith}
use Rattle.std.proofs.lemmas.List.{length-drop, length-take}
use Rattle.pgn_batches.specs.Games.{games_of}
use Rattle.pgn_json.proofs.part_texts.GameTextTaskGameTask.len.Goals as goal

pub returns : goal.returns
returns c =
    let games = games_of c.args.self.now.batch.now in
    let first = c.args.self.now.first in
    let all = c.len.ensures in
    let wide = c.from.ensures in
    let left = c.saturating_sub.ensures in
    let least = c.min.ensures in
    let a = length-drop first games in
    let b = length-take 128 (drop first games) in
    omega (arith, all, wide, left, least, a, b)
