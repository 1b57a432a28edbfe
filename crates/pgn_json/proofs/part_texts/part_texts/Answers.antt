use Rattle.std.proofs.Common.{◌≤◌, ◌^◌, drop, arith}
use Rattle.std.proofs.lemmas.List.{length-take}
use Rattle.pgn_batches.specs.Games.{games_of}
use Rattle.cq_workers.proofs.Makings.{are_made, begins}
use Rattle.pgn_json.specs.Internal.PartTexts.{IsTextsAt, number_in}
use Rattle.pgn_json.specs.Internal.Parts.{part_at, size}
use Rattle.pgn_json.proofs.part_texts.part_texts.Goals as goal

pub run_workers-requires-clause-games : goal.run_workers-requires-clause-games
run_workers-requires-clause-games g c = λ lifetimes live.
    let task = c.args.task.now in
    let few = length-take 128 (drop task.first (games_of task.batch.now)) in
    let e : size (part_at task.mark.now task.batch.now task.first) ≤ 2 ^ 32 = omega (arith, few) in e

pub run_workers-requires-clause-nothing : goal.run_workers-requires-clause-nothing
run_workers-requires-clause-nothing g c = λ lifetimes live k d less.
    let task = c.args.task.now in
    let part = part_at task.mark.now task.batch.now task.first in begins (IsTextsAt part) number_in 0 (size part)

pub in_places-requires : goal.in_places-requires
in_places-requires g c =
    let task = c.args.task.now in
    let part = part_at task.mark.now task.batch.now task.first in
    are_made (IsTextsAt part) number_in 0 (size part) _ c.in_ok-made.made.items c.in_ok-made.ensures.made
