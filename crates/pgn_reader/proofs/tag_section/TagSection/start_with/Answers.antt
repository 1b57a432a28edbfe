use Rattle.std.proofs.Common.{◌∙◌, sym, ap}
use Rattle.std.specs.Prelude.{codes}
use Rattle.std.specs.Option.{option_copied}
use Rattle.std.proofs.lemmas.Slice.Eq.{bytes_eq-Decides}
use Rattle.cq_position.specs.Games.{tag_value}
use Rattle.pgn_reader.specs.Internal.TagSection.{TagSection}
use Rattle.pgn_reader.proofs.FirstFen.{first_fen}
use Rattle.pgn_reader.proofs.tag_section.TagSection.start_with.Goals as goal

pub returns-in-None : goal.returns-in-None
returns-in-None c =
    let name = (bytes_eq-Decides c.args.name.now c.as_slice.result.now).0 (sym c.if-eq.ensures) ∙ c.as_slice.ensures in
    let none = ap (λ (p : TagSection). tag_value (codes "FEN") p.tags) (sym c.self.view_is) ∙ sym c.get.ensures ∙ ap option_copied c.in-None.is in
    c.read_fen.ensures ∙ first_fen c.args.name.now c.args.value.now c.args.self.now.tags name none
