use Rattle.std.proofs.Common.{◌<◌, ◌^◌, ap, sym, ◌∙◌, arith}
use Rattle.cql_syntax.specs.Meaning.{value}
use Rattle.cql_syntax.specs.TreeOf.{filter_tree}
use Rattle.cql_syntax.specs.Values.{has}
use Rattle.cql_values.specs.Trees.{searched_tree}
use Rattle.cql_values.proofs.Masks.{own_mask}
use Rattle.cql_plain.proofs.typed_values.set_at.Goals as goal

pub returns : goal.returns
returns c =
    let there = has (value (searched_tree c.args.game.now c.args.variations) c.args.context.now c.args.names.now (filter_tree c.args.f.now) c.args.node) in
    let fits : c.squares.result < 2 ^ 64 = omega arith in
    own_mask c.squares.result there fits (sym (ap has c.in_ok-value.ensures) ∙ c.squares.ensures)
