use Rattle.cql_lines.specs.PatternTrees.{patterns_in}
use Rattle.cql_operators.proofs.LineAtoms.{PatternSoFar}
use Rattle.cql_operators.proofs.patterns.+pattern.Given as goal

abbrev pub invariant-parts_pattern-loop-part : goal.invariant-parts_pattern-loop-part
invariant-parts_pattern-loop-part l = PatternSoFar l.fn.next l.part-items l.part-index l.next (patterns_in l.patterns)
