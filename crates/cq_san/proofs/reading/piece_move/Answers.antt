use Rattle.std.proofs.Common.{sym, subst}
use Rattle.cq_san.specs.declared.parts.Parts.TheVariants.{Moved}
use Rattle.cq_san.specs.Reading.{IsMeaningOfParts}
use Rattle.cq_san.proofs.ByOrigins.{by_origins}
use Rattle.cq_san.proofs.reading.piece_move.Goals as goal

pub returns : goal.returns
returns c =
    subst (IsMeaningOfParts c.args.position.now (Moved c.args.parts.now)) (sym c.only_move.ensures)
    (by_origins c.args.position.now c.args.parts.now c.is_position.ensures.kept.whole)
