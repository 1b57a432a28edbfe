use Rattle.std.proofs.Common.{◌∙◌}
use Rattle.cq_position.specs.Board.{man_at}
use Rattle.cq_position.specs.Men.{man_number}
use Rattle.cq_position.proofs.Marked.{marks_same}
use Rattle.cq_symmetry.specs.Images.{is_in}
use Rattle.cql_values.proofs.Standing.{masked}
use Rattle.cql_values.proofs.words.standing_of.Goals as goal

pub returns : goal.returns
returns c =
    masked c.args.d.now.part.squares c.squares_of_all.result (λ s. is_in c.args.d.now.men (man_number (man_at c.args.position.now.men s)))
    (marks_same _ _ _ (λ s low. c.requires (man_at c.args.position.now.men s)) (rw (← c.men.ensures.men) c.squares_of_all.ensures))
