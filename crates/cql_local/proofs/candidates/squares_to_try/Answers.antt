use Rattle.std.proofs.Common.{ap, sym, ◌∙◌}
use Rattle.cq_symmetry.specs.Images.{is_in}
use Rattle.cql_syntax.specs.TreeOf.{filter_tree}
use Rattle.cql_syntax.specs.Values.{as_squares, square_of}
use Rattle.cql_local.specs.Internal.NodeValues.{holds_at}
use Rattle.cql_local.proofs.Cutting.{cut_same}
use Rattle.cql_local.proofs.candidates.squares_to_try.Goals as goal

pub returns : goal.returns
returns c =
    let test = holds_at c.args.place.now c.args.name.now c.args.names.now (filter_tree c.args.asked.now) in
    ap (λ every. square_of every (as_squares (is_in c.candidates.result)) test) c.if-every.false ∙ cut_same test c.args.set c.candidates.result c.candidates.ensures
    ∙ sym (ap (λ every. square_of every (as_squares (is_in c.args.set)) test) c.if-every.false)
