use Rattle.std.proofs.Common.{◌≡◌, ◌<◌, ◌∙◌, ◌&&◌, [], ◌∷◌, ◌++◌, map, length, ap, ap₂, arith}
use Rattle.std.proofs.lemmas.List.{take_all}
use Rattle.cql_plain.proofs.Sets.{map_next}
use Rattle.cql_plain.proofs.path_places.where_counted.Goals as goal

pub loop-k-preserved : goal.loop-k-preserved
loop-k-preserved c =
    let low : c.loop-k.k < length c.args.set.now = omega arith in
    c.in_ok-push.ensures.items ∙ ap₂ (λ xs x. xs ++ x ∷ []) c.loop-k.invariant c.both-there.ensures ∙ map_next (λ b. c.args.counts && b) c.args.set.now c.loop-k.k low

pub returns : goal.returns
returns c = c.loop-k.invariant ∙ ap (map (λ b. c.args.counts && b)) (take_all c.loop-k.k c.args.set.now (omega arith))
