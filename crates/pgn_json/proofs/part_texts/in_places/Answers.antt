use Rattle.std.proofs.Common.{drop, arith, rules}
use Rattle.std.proofs.lemmas.List.{length-take}
use Rattle.pgn_batches.specs.Games.{games_of}
use Rattle.pgn_json.specs.Internal.Parts.{part_at}
use Rattle.pgn_json.proofs.Placing.{all_placed, last_within, placed_one, starts}
use Rattle.pgn_json.proofs.part_texts.in_places.Goals as goal

pub no_texts-requires : goal.no_texts-requires
no_texts-requires c =
    let size_is = c.len.ensures in
    let few = length-take 128 (drop c.args.task.now.first (games_of c.args.task.now.batch.now)) in
    omega (arith, size_is, few)

pub loop-game-init : goal.loop-game-init
loop-game-init c = starts (part_at c.args.task.now.mark.now c.args.task.now.batch.now c.args.task.now.first) c.args.made.items _ c.requires (search rules)

pub index_mut-requires : goal.index_mut-requires
index_mut-requires c =
    let within = last_within (part_at c.args.task.now.mark.now c.args.task.now.batch.now c.args.task.now.first) c.loop-game.made.items c.pop.new.self.items c.in-Some.game c.loop-game.places.items
    c.in-Some.ensures.items c.loop-game.invariant in
    let o = c.loop-game.places.ok in
    search rules

pub loop-game-preserved : goal.loop-game-preserved
loop-game-preserved c =
    placed_one (part_at c.args.task.now.mark.now c.args.task.now.batch.now c.args.task.now.first) c.loop-game.made.items c.pop.new.self.items c.in-Some.game c.loop-game.places.items _
    c.in-Some.ensures.items (search rules) c.loop-game.invariant

pub returns : goal.returns
returns c =
    let o = c.loop-game.made.ok in
    let z = c.in_default.ensures.cases.0 in
    all_placed (part_at c.args.task.now.mark.now c.args.task.now.batch.now c.args.task.now.first) c.loop-game.made.items c.loop-game.places.items (search rules) c.loop-game.invariant
