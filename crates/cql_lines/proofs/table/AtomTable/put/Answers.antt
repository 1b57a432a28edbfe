use Rattle.std.proofs.Common.{ap, ◌∙◌}
use Rattle.cql_lines.specs.Internal.Lengths.{is_set}
use Rattle.cql_lines.proofs.Puts.{put_there, any_default}
use Rattle.cql_lines.proofs.table.AtomTable.put.Goals as goal

pub returns-clause-others : goal.returns-clause-others
returns-clause-others g c = λ a n other. put_there c.args.self.now.words.items c.args.node c.with_bit-word.result c.args.atom a n c.requires.node
    (λ b apart. c.with_bit-word.ensures.beside b apart ∙ ap (λ w. is_set w b) (c.index.ensures ∙ any_default c.args.self.now.words.items c.args.node _ 0 c.requires.node)) other
