use Rattle.std.proofs.Common.{◌≡◌, ◌<◌, ◌∙◌, ◌&&◌, Bool, not, [], ◌∷◌, ◌++◌, length, get_or, false, ap, ap₂, arith}
use Rattle.cql_plain.proofs.Sets.{zip_next, zip_whole}
use Rattle.cql_plain.proofs.path_places.fresh.Goals as goal

pub loop-k-preserved : goal.loop-k-preserved
loop-k-preserved c =
    let low : c.loop-k.k < length c.args.next.now = omega arith in
    let f : Bool × Bool → Bool = λ b. b.0 && not (c.args.counts && b.1) in
    c.in_ok-push.ensures.items
    ∙ ap₂ (λ xs x. xs ++ x ∷ []) c.loop-k.invariant (c.both-there.ensures ∙ ap (λ b. get_or c.args.next.now c.loop-k.k false && not b) c.both.ensures)
    ∙ zip_next f c.args.next.now c.args.ends.now c.loop-k.k c.requires low

pub returns : goal.returns
returns c =
    let all : c.loop-k.k ≡ length c.args.next.now = omega arith in
    let f : Bool × Bool → Bool = λ b. b.0 && not (c.args.counts && b.1) in
    c.loop-k.invariant ∙ zip_whole f c.args.next.now c.args.ends.now c.loop-k.k c.requires all
