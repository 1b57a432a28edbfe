use Rattle.std.proofs.Common.{subst}
use Rattle.cq_position.specs.Position.{IsPosition}
use Rattle.pgn_export.proofs.ReadBack.{answer_spells, answer_back}
use Rattle.pgn_export.proofs.game.export.Goals as goal

pub returns-clause-spelled : goal.returns-clause-spelled
returns-clause-spelled c =
    answer_spells c.args.game.now c.written.result c.is_tree.ensures.tree c.is_tree.ensures.notes
    c.is_tree.ensures.names (subst IsPosition c.position.ensures c.is_position.ensures.kept) c.written.ensures

pub returns-clause-back : goal.returns-clause-back
returns-clause-back c = answer_back c.args.game.now c.written.result c.written.ensures (returns-clause-spelled c)
