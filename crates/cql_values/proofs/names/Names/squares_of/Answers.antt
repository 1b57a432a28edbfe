use Rattle.std.proofs.Common.{◌≡◌, ◌+◌, ◌-◌, ◌<◌, true, length, get_or, ap, ◌∙◌, sym, arith}
use Rattle.std.specs.Str.{bytes_eq}
use Rattle.std.proofs.lemmas.List.{get_or_default}
use Rattle.cql_syntax.specs.Values.{as_squares}
use Rattle.cql_values.proofs.Bound.{bound_here}
use Rattle.cql_values.proofs.names.Names.squares_of.Goals as goal

pub returns-then-eq : goal.returns-then-eq
returns-then-eq c =
    let pairs = c.self.inside.pairs.items in
    let text = c.args.name.now in
    let k = c.loop-kept.kept - 1 in
    let pair = c.index.result.now in
    let next : k + 1 ≡ c.loop-kept.kept = omega (arith, c.loop-kept-test.true) in
    let low : k < length pairs = omega (arith, next, c.loop-kept.invariant.within) in
    let names : bytes_eq (get_or pairs k pair).0 text ≡ true = ap (λ p. bytes_eq p.0 text) (sym c.index.ensures)
    ∙ ap (λ l. bytes_eq l text) (sym c.as_slice.ensures) ∙ sym c.eq.ensures ∙ c.if-eq.true in
    let same : c.number.result ≡ (get_or pairs k pair).1 = c.number.ensures.value ∙ ap (λ p. p.1) (c.index-then-eq.ensures ∙ get_or_default pairs k c.index-then-eq.result.now pair low) in
    ap as_squares (bound_here pairs c.loop-kept.kept k pair text c.args.self.now next c.loop-kept.invariant.within c.loop-kept.invariant.same names
    c.number.result same c.number.ensures.below (omega arith))
