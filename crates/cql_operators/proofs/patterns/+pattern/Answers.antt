use Rattle.std.proofs.Common.{◌∙◌, ap, arith}
use Rattle.cql_lines.specs.PatternTrees.{patterns_in}
use Rattle.cql_lines.proofs.Lists.{sequence_tree}
use Rattle.cql_syntax.specs.Meaning.{marked}
use Rattle.cql_syntax.specs.TreeOf.{parts_tree}
use Rattle.cql_operators.proofs.LineAtoms.{pattern_begun, pattern_more, pattern_all, next_all}
use Rattle.cql_operators.proofs.patterns.+pattern.Goals as goal

pub parts_pattern-loop-part-init : goal.parts_pattern-loop-part-init
parts_pattern-loop-part-init t c = pattern_begun _ c.as_slice-part-items.result.now (patterns_in c.new-patterns.result) c.new-patterns.ensures

pub parts_pattern-loop-part-preserved : goal.parts_pattern-loop-part-preserved
parts_pattern-loop-part-preserved t c =
    pattern_more _ c.as_slice-part-items.result.now
    (record { index = c.loop-part.part-index; item = c.part-item.result; below = c.loop-part-test.true; is = c.part-item.is }) c.loop-part.next c.body_pattern.new.next
    (patterns_in c.loop-part.patterns) (patterns_in c.push.new.self) c.in_ok-pattern.pattern
    (c.in_ok-pattern.ensures ∙ ap (marked c.part-item.result.mark) c.in_ok-body.ensures.pattern) c.in_ok-body.ensures.next c.in_ok-push.ensures.more c.loop-part.invariant

pub parts_pattern-returns-clause-pattern : goal.parts_pattern-returns-clause-pattern
parts_pattern-returns-clause-pattern t c =
    sequence_tree c.loop-part.patterns
    ∙ pattern_all _ c.as_slice-part-items.result.now c.loop-part.part-index c.loop-part.next (patterns_in c.loop-part.patterns) (parts_tree c.args.parts.now)
    (omega (arith, c.loop-part-test.false)) c.as_slice-part-items.ensures.tree c.loop-part.invariant

pub parts_pattern-returns-clause-next : goal.parts_pattern-returns-clause-next
parts_pattern-returns-clause-next t c =
    next_all _ c.as_slice-part-items.result.now c.loop-part.part-index c.loop-part.next (patterns_in c.loop-part.patterns) (parts_tree c.args.parts.now)
    (omega (arith, c.loop-part-test.false)) c.as_slice-part-items.ensures.tree c.loop-part.invariant
