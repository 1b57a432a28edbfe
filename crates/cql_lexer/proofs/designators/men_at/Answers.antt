use Rattle.std.proofs.Common.{sym, ◌∙◌}
use Rattle.cql_lexer.proofs.Fronts.{men_group_some}
use Rattle.cql_lexer.proofs.designators.men_at.Goals as goal

pub returns-in_ok-men_of_letters-in-Some : goal.returns-in_ok-men_of_letters-in-Some
returns-in_ok-men_of_letters-in-Some c =
    men_group_some _ _ _ (sym c.in-Some.ensures) (sym c.men_of_letters.ensures ∙ c.in_ok-men_of_letters-in-Some.was)
