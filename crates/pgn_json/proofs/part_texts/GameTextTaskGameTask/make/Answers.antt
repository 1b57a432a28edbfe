use Rattle.std.proofs.Common.{refl, arith}
use Rattle.pgn_batches.specs.Games.{games_of}
use Rattle.cq_workers.proofs.Makings.{adds_one}
use Rattle.pgn_json.specs.Internal.PartTexts.{IsTextsAt, number_in}
use Rattle.pgn_json.specs.Internal.Parts.{part_at, size}
use Rattle.pgn_json.proofs.BatchParts.{of_part, within_batch}
use Rattle.pgn_json.proofs.Placing.{numbered, texts_at}
use Rattle.pgn_json.proofs.part_texts.GameTextTaskGameTask.make.Goals as goal

pub game_texts-requires : goal.game_texts-requires
game_texts-requires c = (within_batch (games_of c.args.self.now.batch.now) c.args.self.now.first c.args.number c.requires.number).0

pub overflow_add-self : goal.overflow_add-self
overflow_add-self c =
    let less = (within_batch (games_of c.args.self.now.batch.now) c.args.self.now.first c.args.number c.requires.number).0 in
    let few = c.args.self.now.batch.now.few in
    omega (arith, less, few)

pub returns : goal.returns
returns c =
    let mark = c.args.self.now.mark.now in
    let batch = c.args.self.now.batch.now in
    let first = c.args.self.now.first in
    let part = part_at mark batch first in
    adds_one (IsTextsAt part) number_in 0 (size part) (numbered part) c.args.number _
    (texts_at part c.args.number _ c.in_ok-texts.texts (of_part mark batch first c.args.number c.in_ok-texts.texts c.requires.number c.in_ok-texts.ensures) refl refl)
