use Rattle.std.proofs.Common.{sym, ◌∙◌, refl}
use Rattle.cql_syntax.specs.TreeOf.{query_tree}
use Rattle.cql_parser.proofs.Reading.{kept_more, fault_here, query_here}
use Rattle.cql_parser.proofs.parsing.parse.Goals as goal

pub returns-then-is_fault : goal.returns-then-is_fault
returns-then-is_fault c =
    fault_here c.args.tokens.now c.loop-token.token-index c.token-item.result c.loop-token.reached c.in_ok-reached.reached
    c.loop-token.reader c.feed.new.self _
    c.loop-token-test.true c.token-item.is c.loop-token.invariant
    record { fed = c.in_ok-reached.ensures; fails = sym c.is_fault.ensures ∙ c.if-is_fault.true; byte = refl; reason = c.in_ok-reason_at.ensures }

pub loop-token-preserved : goal.loop-token-preserved
loop-token-preserved c =
    kept_more c.args.tokens.now c.loop-token.token-index c.token-item.result c.loop-token.reached c.in_ok-reached.reached
    c.loop-token.reader c.feed.new.self
    c.loop-token-test.true c.token-item.is c.loop-token.invariant c.in_ok-reached.ensures (sym c.is_fault.ensures ∙ c.if-is_fault.false)

pub returns : goal.returns
returns c =
    query_here c.args.tokens.now c.loop-token.token-index c.loop-token.reached c.loop-token.reader (query_tree c.finish.result)
    c.loop-token-test.false c.requires c.loop-token.invariant c.finish.ensures
