use Rattle.std.proofs.Common.{sym, ap, subst, ◌∙◌, ◌+◌, ◌++◌, ◌∷◌, [], List, Ok, arith}
use Rattle.std.proofs.lemmas.Result.{err_from_is_err_and}
use Rattle.cql_syntax.specs.declared.token.QueryToken.{QueryToken}
use Rattle.cql_lexer.specs.declared.expected.Expected.{Expected}
use Rattle.cql_lexer.specs.declared.expected.Expected.TheVariants.{Token}
use Rattle.cql_lexer.proofs.Ends.{tokens_end}
use Rattle.cql_lexer.proofs.Steps.{TokensLeft, too_long, at_start, after_separator, after_token, at_refusal, at_end}
use Rattle.cql_lexer.proofs.tokens.query_tokens.Goals as goal

pub returns-then-query-gt-QUERY_LIMIT-clause-value : goal.returns-then-query-gt-QUERY_LIMIT-clause-value
returns-then-query-gt-QUERY_LIMIT-clause-value c = too_long _ c.if-query-gt-QUERY_LIMIT.true

pub loop-at-init : goal.loop-at-init
loop-at-init c =
    let P : List QueryToken → Type 0 = λ tokens. TokensLeft c.args.query.now tokens Token 0 in
    subst P (sym c.new-tokens.ensures.items) (at_start _ c.if-query-gt-QUERY_LIMIT.false)

pub loop-at-preserved-then-separator-gt0 : goal.loop-at-preserved-then-separator-gt0
loop-at-preserved-then-separator-gt0 c =
    let s = c.separator_len-separator.ensures in
    after_separator _ _ _ _ _ c.loop-at.invariant c.loop-at-test.true s.value c.if-separator-gt0.true s.fits

pub returns-in_err-token-clause-value : goal.returns-in_err-token-clause-value
returns-in_err-token-clause-value c =
    let p = err_from_is_err_and c.from_residual.result c.from_residual.ensures.1 in
    rw (p.1, p.2)
    (at_refusal _ _ _ _ _ c.in_err-token.field-0.0 c.loop-at.invariant c.loop-at-test.true c.separator_len-separator.ensures.value c.if-separator-gt0.false c.in_err-token.ensures.value)

pub loop-at-preserved : goal.loop-at-preserved
loop-at-preserved c =
    let found = c.in_ok-token.ensures in
    let P : List QueryToken → Type 0 = λ tokens. TokensLeft c.args.query.now tokens c.expected_after-expected.result (c.loop-at.at + c.in_ok-token.len) in
    let Q : Expected → Type 0 = λ expected. TokensLeft c.args.query.now (c.loop-at.tokens.items ++ c.in_ok-token.token ∷ []) expected (c.loop-at.at + c.in_ok-token.len) in
    subst P (sym c.in_ok-push.ensures)
    (subst Q (sym c.expected_after-expected.ensures)
    (after_token _ _ _ _ c.in_ok-token.token c.in_ok-token.len c.loop-at.invariant c.loop-at-test.true
    (omega (arith, c.separator_len-separator.ensures.value, c.if-separator-gt0.false)) found.value found.front.0 found.front.1))

pub returns-clause-value : goal.returns-clause-value
returns-clause-value c =
    at_end _ _ _ _ c.loop-at.invariant c.loop-at-test.false ∙ ap (λ tokens. Ok tokens) (sym c.in_ok-push-2.ensures)

pub returns-clause-proper : goal.returns-clause-proper
returns-clause-proper c = tokens_end _ _ (returns-clause-value c)
