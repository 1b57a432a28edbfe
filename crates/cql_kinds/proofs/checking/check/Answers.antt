use Rattle.std.proofs.Common.{sym, ◌∙◌, ap}
use Rattle.std.proofs.lemmas.Result.{err_from_is_err_and}
use Rattle.cql_syntax.specs.TreeFaults.{tree_fault, has_any, ok_unless, holds_brace}
use Rattle.cql_syntax.specs.TreeOf.{query_tree}
use Rattle.cql_kinds.specs.Internal.Walks.{limit_fault}
use Rattle.cql_kinds.proofs.Checked.{text_fault, rule_fault, limit_is, none_from}
use Rattle.cql_kinds.proofs.checking.check.Goals as goal

pub returns-then-holds_brace : goal.returns-then-holds_brace
returns-then-holds_brace c =
    text_fault (query_tree c.args.query.now) (ap holds_brace (sym c.as_slice.ensures) ∙ sym c.if-holds_brace.ensures)

pub returns-in_err-firsts : goal.returns-in_err-firsts
returns-in_err-firsts c =
    let p = err_from_is_err_and c.from_residual.result c.from_residual.ensures.1 in
    rw (p.1, p.2)
    (rule_fault (query_tree c.args.query.now) c.in_err-firsts.field-0.0 (ap holds_brace (sym c.as_slice.ensures) ∙ sym c.if-holds_brace.ensures)
    c.in_err-firsts.ensures)

pub returns-in-Some : goal.returns-in-Some
returns-in-Some c =
    ap (ok_unless (query_tree c.args.query.now))
    (limit_is (query_tree c.args.query.now) c.in_ok-firsts.firsts (ap holds_brace (sym c.as_slice.ensures) ∙ sym c.if-holds_brace.ensures) c.in_ok-firsts.ensures
    ∙ ap (limit_fault c.in_ok-firsts.firsts) (sym c.is_too_heavy.ensures) ∙ sym c.limit_fault.ensures ∙ c.in-Some.is)

pub invariant_of-result : goal.invariant_of-result
invariant_of-result c = record {
  accepted = ap tree_fault c.in_ok-copy.ensures
      ∙ limit_is (query_tree c.args.query.now) c.in_ok-firsts.firsts (ap holds_brace (sym c.as_slice.ensures) ∙ sym c.if-holds_brace.ensures) c.in_ok-firsts.ensures
      ∙ ap (limit_fault c.in_ok-firsts.firsts) (sym c.is_too_heavy.ensures) ∙ sym c.limit_fault.ensures ∙ none_from c.limit_fault.result c.in_default.not-Some;
  written = ap has_any c.in_ok-copy.ensures ∙ c.requires;
}
