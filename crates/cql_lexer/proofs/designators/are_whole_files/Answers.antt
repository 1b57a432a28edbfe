use Rattle.std.proofs.Common.{sym, ◌∙◌}
use Rattle.cq_geometry.specs.Squares.{file_of}
use Rattle.cql_lexer.specs.Designators.{are_alike}
use Rattle.cql_lexer.proofs.Whole.{whole_files, square_more, square_fails, squares_done}
use Rattle.cql_lexer.proofs.designators.are_whole_files.Goals as goal

pub loop-square-init : goal.loop-square-init
loop-square-init c = whole_files c.args.squares

-- one more square is in the set as the first of its file is
pub loop-square-preserved : goal.loop-square-preserved
loop-square-preserved c =
    square_more (λ s. are_alike c.args.squares s (file_of s)) c.loop-square.square c.loop-square-test.true (sym c.if-not-are_alike.ensures) ∙ c.loop-square.invariant

pub returns-then-not-are_alike : goal.returns-then-not-are_alike
returns-then-not-are_alike c =
    sym (square_fails (λ s. are_alike c.args.squares s (file_of s)) c.loop-square.square c.loop-square-test.true (sym c.if-not-are_alike.ensures)) ∙ c.loop-square.invariant

pub returns : goal.returns
returns c = sym (squares_done (λ s. are_alike c.args.squares s (file_of s)) c.loop-square.square c.loop-square-test.false) ∙ c.loop-square.invariant
