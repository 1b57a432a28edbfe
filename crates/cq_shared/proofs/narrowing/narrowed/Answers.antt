use Rattle.std.proofs.Common.{◌≡◌, [], ◌∷◌, ◌++◌, length, append_assoc, ap, subst, sym, ◌∙◌, rules}
use Rattle.cq_shared.specs.Matching.{is_owned_by}
use Rattle.cq_shared.proofs.Unions.{AreLeftOf, AreNarrowed, narrowed_none, narrowed_next, narrowed_end}
use Rattle.cq_shared.proofs.narrowing.narrowed.Goals as goal

pub loop-nodes-init : goal.loop-nodes-init
loop-nodes-init c = (search rules, narrowed_none c.args.game.now c.args.part.now c.args.left.items c.in_ok-later.later.items c.in_ok-later.ensures.items)

pub loop-nodes-preserved : goal.loop-nodes-preserved
loop-nodes-preserved c =
    let was = c.loop-nodes.invariant in
    let ys = c.loop-nodes.yielded in
    let nodes = c.in-Some.nodes in
    let more = c.next.new.self.rest.items in
    let part = c.args.part.now in
    let len : c.len-query.result ≡ length c.loop-nodes.later.items = search rules in
    let asked = c.has-wants.ensures ∙ ap (λ query. is_owned_by query part) (len ∙ was.1.count) in
    let is = was.0 ∙ ap (λ l. ys ++ l) c.in-Some.ensures.steps.0 in (
      is ∙ sym (append_assoc ys (nodes ∷ []) more),
      subst (λ later. AreNarrowed c.args.game.now part c.args.left.items later (length (ys ++ nodes ∷ []))) (sym c.in_ok-push.ensures.items)
          (narrowed_next c.args.game.now part c.args.left.items
          (record { live = c.args.live.now; truths = c.args.truths.now; told = c.requires.told; covers = c.requires.covers }) ys more c.loop-nodes.later.items nodes
          c.narrowed_if.result is (subst (λ wants. AreLeftOf wants c.args.truths.now nodes c.narrowed_if.result) asked c.narrowed_if.ensures) was.1),
    )

pub returns : goal.returns
returns c =
    narrowed_end c.args.game.now c.args.part.now c.args.left.items c.loop-nodes.yielded c.loop-nodes.nodes-iterator.rest.items c.loop-nodes.later.items
    c.loop-nodes.invariant.0 (search rules) c.loop-nodes.invariant.1
