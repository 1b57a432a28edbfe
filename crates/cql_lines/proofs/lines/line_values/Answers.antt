use Rattle.std.proofs.lemmas.Result.{IfOk-weaker}
use Rattle.cql_lines.specs.Shapes.{Edge}
use Rattle.cql_lines.proofs.LinesLaw.{value_of}
use Rattle.cql_lines.proofs.lines.line_values.Goals as goal

pub returns-in-Some-clause-values : goal.returns-in-Some-clause-values
returns-in-Some-clause-values g c = IfOk-weaker c.longest.result _ _ (λ found known p of n low.
    let s = c.args.shape.now in
    value_of c.args.table.now.words.items c.args.automaton.now p of s.tree_nodes.items (Edge s.back s.primary s.tree_nodes.items) c.as_slice-rules.result.now s.extent
    c.as_slice-rules.ensures.value n _ (known n low)) c.longest.ensures.values

pub returns-in-None-clause-values : goal.returns-in-None-clause-values
returns-in-None-clause-values g c = IfOk-weaker c.longest-in-None.result _ _ (λ found known p of n low.
    let s = c.args.shape.now in
    value_of c.args.table.now.words.items c.args.automaton.now p of s.tree_nodes.items (Edge s.back s.primary s.tree_nodes.items) c.as_slice-rules.result.now s.extent
    c.as_slice-rules.ensures.value n _ (known n low)) c.longest-in-None.ensures.values
