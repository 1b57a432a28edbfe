use Rattle.std.proofs.Common.{◌≡◌, ◌≢◌, ◌∙◌, [], sym, subst, drop, map, Some}
use Rattle.cq_shared.specs.Internal.Reading.{row_keys, HaveNumbers}
use Rattle.cq_shared.proofs.Readings.{have_numbers, hits_found, query_keyed}
use Rattle.cq_shared.proofs.collecting.collect_one.Goals as goal

pub keys-requires : goal.keys-requires
keys-requires c =
    subst (λ ns. HaveNumbers c.args.parts.now c.args.rows.now ns (drop c.args.owner.now.sorts c.args.owner.now.numbers.items)) (sym (c.as_slice.ensures.value ∙ c.in_ok-nodes.ensures))
    (have_numbers c.args.game.now c.args.parts.now c.args.owner.now c.args.nodes.now c.args.rows.now c.requires)

pub returns-clause-nodes : goal.returns-clause-nodes
returns-clause-nodes c =
    c.in_ok-nodes.ensures ∙ hits_found _ c.args.game.now c.args.nodes.now.there.items (c.games_with_a_hit_pass.ensures.flat _ c.args.game.now) c.requires.left

pub returns-clause-keys : goal.returns-clause-keys
returns-clause-keys c =
    query_keyed c.args.game.now c.args.parts.now c.args.owner.now c.args.nodes.now c.args.rows.now c.requires (c.games_with_a_hit_pass.ensures.flat _ c.args.game.now)
    c.in_ok-nodes.nodes.items c.in_ok-keys.keys.items c.in_ok-nodes.ensures
    (subst (λ ns. ns ≢ [] → map Some c.in_ok-keys.keys.items ≡ row_keys c.args.parts.now c.args.rows.now ns (drop c.args.owner.now.sorts c.args.owner.now.numbers.items))
    c.as_slice.ensures.value c.in_ok-keys.ensures.keys)
    (subst (λ ns. ns ≡ [] → c.in_ok-keys.keys.items ≡ []) c.as_slice.ensures.value c.in_ok-keys.ensures.none)
