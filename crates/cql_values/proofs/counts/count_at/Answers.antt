use Rattle.std.proofs.Common.{◌≡◌, ◌<◌, ◌||◌, not, length, refl, sym, ap, ◌∙◌, arith}
use Rattle.std.specs.Prelude.{if◌then◌else◌}
use Rattle.cq_position.specs.Search.{begins_variation}
use Rattle.cql_values.proofs.MoveCounts.{one_on, none_on, few_on}
use Rattle.cql_values.proofs.Ranges.{at_most_one}
use Rattle.cql_values.proofs.counts.count_at.Goals as goal

pub overflow_add-result : goal.overflow_add-result
overflow_add-result c =
    let low : c.in-Some.parent < c.args.k = c.in-Some.ensures.before in
    let few = few_on c.args.variations_alone c.args.game.now.nodes c.in-Some.parent c.requires.tree (omega (arith, low, c.requires.node)) in
    let here = c.requires.before.each c.in-Some.parent low in
    let one = at_most_one c.is_counted.result in
    omega (arith, few, here, one, c.one_if.ensures)

pub returns-in-Some : goal.returns-in-Some
returns-in-Some c =
    let on = one_on c.args.variations_alone c.args.game.now.nodes c.args.k c.in-Some.parent c.requires.tree c.requires.node (sym c.parent.ensures.value ∙ c.in-Some.is) in
    let here = c.requires.before.each c.in-Some.parent c.in-Some.ensures.before in
    let one = c.one_if.ensures ∙ ap (λ b. if b then 1 else 0) c.is_counted.ensures in
    omega (arith, on, here, one)

pub returns-in-None : goal.returns-in-None
returns-in-None c =
    sym (none_on c.args.variations_alone c.args.game.now.nodes c.args.k c.requires.tree (c.in-None.ensures.root.0 refl) (sym c.parent.ensures.value ∙ c.in-None.is))
