use Rattle.cql_lexer.proofs.Rectangles.{within}
use Rattle.cql_lexer.proofs.designators.squares_from.Goals as goal

pub overflow_sub-row-3 : goal.overflow_sub-row-3
overflow_sub-row-3 c =
    let r = c.requires in (within _ _ _ _ r.first_file r.files r.last_file r.first_rank r.ranks r.last_rank).0

pub returns : goal.returns
returns c =
    let r = c.requires in (within _ _ _ _ r.first_file r.files r.last_file r.first_rank r.ranks r.last_rank).1
