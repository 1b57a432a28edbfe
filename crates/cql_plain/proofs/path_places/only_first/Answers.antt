use Rattle.std.proofs.Common.{◌≡◌, ◌∙◌, [], ◌∷◌, ◌++◌, true, false, replicate, ap, arith}
use Rattle.std.proofs.lemmas.List.{replicate_more}
use Rattle.cql_plain.proofs.path_places.only_first.Goals as goal

pub loop-k-preserved : goal.loop-k-preserved
loop-k-preserved c =
    c.in_ok-push-2.ensures.items ∙ ap (λ xs. xs ++ false ∷ []) c.loop-k.invariant ∙ ap (λ xs. true ∷ xs) (replicate_more c.loop-k._k false)

pub returns : goal.returns
returns c =
    let all : c.loop-k._k ≡ c.args.nodes = omega arith in
    c.loop-k.invariant ∙ ap (λ n. true ∷ replicate n false) all
