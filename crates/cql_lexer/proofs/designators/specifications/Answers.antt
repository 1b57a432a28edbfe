use Rattle.std.proofs.Common.{sym, ◌∙◌}
use Rattle.std.proofs.lemmas.List.{take_rest}
use Rattle.cql_lexer.proofs.Parts.{union_of_designators-at_none, union_of_designators-at_some}
use Rattle.cql_lexer.proofs.designators.specifications.Goals as goal

pub returns-in_err-squares : goal.returns-in_err-squares
returns-in_err-squares c =
    c.from_residual.ensures
    ∙ sym (union_of_designators-at_none c.loop-end.squares _ _ (sym c.in-Some.ensures) (sym c.specification.ensures ∙ c.in_err-squares.was))
    ∙ c.loop-end.invariant

pub loop-end-preserved : goal.loop-end-preserved
loop-end-preserved c =
    rw take_rest
    (sym (union_of_designators-at_some c.loop-end.squares _ _ _ (sym c.in-Some.ensures) (sym c.specification.ensures ∙ c.in_ok-squares.was)) ∙ c.loop-end.invariant)
