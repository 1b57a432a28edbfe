use Rattle.std.proofs.Common.{sym, subst, ap, ◌∙◌}
use Rattle.cq_san.specs.Writing as writing
use Rattle.cq_san.specs.Spelling.{Spells}
use Rattle.cq_san.proofs.Alone.{meant}
use Rattle.cq_san.proofs.Writing.{text_spells}
use Rattle.cq_san.specs.San.{san}
use Rattle.cq_san.proofs.Means.{written_read}
use Rattle.cq_san.proofs.Room.{on_board}
use Rattle.cq_san.proofs.text.san_text_to.Goals as goal

pub returns-clause-spelled : goal.returns-clause-spelled
returns-clause-spelled c =
    let board = on_board c.args.position.now c.args.m c.args.after.now c.is_position.ensures.kept c.requires in
    subst (λ t. Spells t (writing.san_parts c.args.position.now c.args.m)) (sym c.text_to.ensures) (text_spells c.args.position.now c.args.m board.0 board.1)

pub returns-clause-alone : goal.returns-clause-alone
returns-clause-alone c = meant c.args.position.now c.args.m c.args.after.now c.is_position.ensures.kept c.requires

pub returns-clause-read : goal.returns-clause-read
returns-clause-read c =
    ap (san c.args.position.now) c.text_to.ensures
    ∙ written_read c.args.position.now c.args.m c.args.after.now c.is_position.ensures.kept c.requires
