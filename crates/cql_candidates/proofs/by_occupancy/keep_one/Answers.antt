use Rattle.std.proofs.Common.{ap}
use Rattle.cql_syntax.specs.TreeOf.{filter_tree, form_tree}
use Rattle.cql_syntax.specs.Trees.{filter_at}
use Rattle.cql_candidates.proofs.OccupancyColumnLaw.{designator_kept}
use Rattle.cql_candidates.proofs.by_occupancy.keep_one.Goals as goal

pub returns-in-Squares-clause-kept : goal.returns-in-Squares-clause-kept
returns-in-Squares-clause-kept c = λ told tree e are.
    designator_kept tree e c.args.held.now c.keep_men.new.held (filter_tree c.args.part.now) c.args.part.now.at c.in-Squares.d
    (ap (λ form. filter_at c.args.part.now.at (form_tree form)) c.in-Squares.is) (c.keep_men.ensures.kept told tree are)
