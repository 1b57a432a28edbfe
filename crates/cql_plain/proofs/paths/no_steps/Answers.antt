use Rattle.std.proofs.Common.{◌≡◌, ◌∙◌, [], ◌∷◌, ◌++◌, None, replicate, ap, arith}
use Rattle.std.proofs.lemmas.List.{replicate_more}
use Rattle.cql_plain.proofs.paths.no_steps.Goals as goal

pub loop-k-preserved : goal.loop-k-preserved
loop-k-preserved c = c.in_ok-push.ensures.items ∙ ap (λ xs. xs ++ None ∷ []) c.loop-k.invariant ∙ replicate_more c.loop-k._k None

pub returns : goal.returns
returns c =
    let all : c.loop-k._k ≡ c.args.nodes = omega arith in
    c.loop-k.invariant ∙ ap (λ n. replicate n None) all
