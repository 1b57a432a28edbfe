use Rattle.std.proofs.Common.{ap, ◌∙◌}
use Rattle.std.specs.Option.{option_or}
use Rattle.cql_lexer.specs.Lexemes.{mark_number}
use Rattle.cql_lexer.specs.Longest.{front}
use Rattle.cql_lexer.proofs.Marks.{mark_longest}
use Rattle.cql_lexer.proofs.lexeme.mark_at.Goals as goal

pub returns-clause-value : goal.returns-clause-value
returns-clause-value c =
    c.or-2.ensures
    ∙ ap (λ o. option_or o c.mark_front-3.result) c.or.ensures
    ∙ ap (λ o. option_or (option_or o c.mark_front-2.result) c.mark_front-3.result) c.mark_front.ensures.value
    ∙ ap (λ o. option_or (option_or (front mark_number 3 c.args.text.now) o) c.mark_front-3.result) c.mark_front-2.ensures.value
    ∙ ap (λ o. option_or (option_or (front mark_number 3 c.args.text.now) (front mark_number 2 c.args.text.now)) o) c.mark_front-3.ensures.value
    ∙ mark_longest c.args.text.now
