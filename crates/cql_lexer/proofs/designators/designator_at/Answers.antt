use Rattle.std.proofs.Common.{◌+◌, Some, ap, ◌∙◌}
use Rattle.cql_lexer.proofs.Designating.{men_and_squares, squares_beside_men, men_alone, none_from}
use Rattle.cql_lexer.proofs.designators.designator_at.Goals as goal

pub returns-in-Some-squares_at-clause-value : goal.returns-in-Some-squares_at-clause-value
returns-in-Some-squares_at-clause-value c =
    ap (λ d. Some (d, c.in-Some.len + c.in-Some-squares_at.more)) c.men_on-in-Some-squares_at.ensures
    ∙ men_and_squares c.args.text.now c.in-Some.men c.in-Some.len _ _ c.in-Some.ensures c.in-Some-squares_at.ensures

pub returns-in-Some-squares_at-2-clause-value : goal.returns-in-Some-squares_at-2-clause-value
returns-in-Some-squares_at-2-clause-value c =
    ap (λ d. Some (d, c.in-Some-squares_at-2.len)) c.men_on-in-Some-squares_at-2.ensures
    ∙ squares_beside_men c.args.text.now c.in-Some.men c.in-Some.len _ _ c.in-Some.ensures
    (none_from _ c.in_default-squares_at.not-Some ∙ c.squares_at-2.ensures) c.in-Some-squares_at-2.ensures

pub returns-in-None-clause-value : goal.returns-in-None-clause-value
returns-in-None-clause-value c =
    ap (λ d. Some (d, c.in-Some.len)) c.men_on-in-None.ensures
    ∙ men_alone c.args.text.now c.in-Some.men c.in-Some.len c.in-Some.ensures
    (none_from _ c.in_default-squares_at.not-Some ∙ c.squares_at-2.ensures) c.in-None.ensures
