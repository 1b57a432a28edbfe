use Rattle.std.proofs.Common.{sym, subst}
use Rattle.cql_syntax.specs.Limits.{most_open}
use Rattle.cql_syntax.specs.TreeOf.{query_tree}
use Rattle.cql_parser.specs.PartialFilters.{Spells}
use Rattle.cql_parser.specs.Faults.{IsEnded}
use Rattle.cq_query_files.proofs.Texts.{parsed}
use Rattle.cq_query_files.proofs.queries.read_query.Goals as goal

pub parse-requires : goal.parse-requires
parse-requires c = subst IsEnded (sym c.as_slice.ensures.value) (c.tokens_of_a_text_are_ended.ensures c.args.text.now c.in_ok-tokens.tokens.items c.in_ok-tokens.ensures.value)

pub check-requires : goal.check-requires
check-requires c = c.spelled_queries_have_no_any.ensures c.as_slice.result.now (query_tree c.in_ok-query.query) c.in_ok-query.ensures

pub returns : goal.returns
returns c =
    parsed c.args.text.now c.in_ok-tokens.tokens.items (query_tree c.in_ok-query.query) c.check.result c.in_ok-tokens.ensures.value
    (subst (λ ts. Spells most_open ts (query_tree c.in_ok-query.query)) c.as_slice.ensures.value c.in_ok-query.ensures) c.check.ensures
