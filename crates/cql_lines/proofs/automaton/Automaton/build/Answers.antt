use Rattle.cql_lines.specs.PatternTrees.{pattern_tree}
use Rattle.cql_lines.proofs.LinesLaw.{automaton_of, built_on, atoms_on}
use Rattle.cql_lines.proofs.automaton.Automaton.build.Goals as goal

pub returns-clause-automaton : goal.returns-clause-automaton
returns-clause-automaton c = automaton_of _ (pattern_tree c.args.pattern.now)
    (built_on _ c.in_ok-plain.plain
    (pattern_tree c.args.pattern.now) c.new-rules.result.items c.new-rules.ensures.items c.in_ok-plain.ensures c.in_ok-first.ensures.rows c.in_ok-first.ensures.first)

pub returns-clause-atoms : goal.returns-clause-atoms
returns-clause-atoms c = atoms_on _ c.in_ok-plain.plain (pattern_tree c.args.pattern.now) c.new-rules.result.items c.new-rules.ensures.items c.in_ok-plain.ensures c.in_ok-first.ensures.rows
