use Rattle.std.proofs.Common.{◌≡◌, ◌∙◌, ap, sym, subst, map, arith, IfOk}
use Rattle.cql_plan.specs.Plans.{query_of}
use Rattle.cql_syntax.specs.Hits.{hits}
use Rattle.cq_shared.specs.PartOwners.{owner_query}
use Rattle.cq_shared.specs.Matching.{is_before, plan_cost}
use Rattle.cq_shared.specs.Plans.{owners_of, each_part_of, plan_parts}
use Rattle.cq_shared.specs.Verdicts.{nodes_of, keys_of, HaveKeys}
use Rattle.cq_shared.proofs.After.{all_still_ready}
use Rattle.cq_shared.proofs.FirstNodes.{begun_ready}
use Rattle.cq_shared.proofs.Makings.{plan_trees}
use Rattle.cq_shared.proofs.Whole.{plan_lent, are_found, hits_of_all, first_cost, both_cost, all_cost, asked_cost}
use Rattle.cq_shared.proofs.many_queries.match_all.Goals as goal

pub nodes_left_by-requires : goal.nodes_left_by-requires
nodes_left_by-requires g c =
    let plan = plan_lent (each_part_of c.args.plan.now) c.each_part-parts.result.now (owners_of c.args.plan.now) c.owners-owners.result.now c.each_part-parts.ensures.value
    c.owners-owners.ensures.value (record { are = c.owners-owners.ensures.parts; same = c.each_part-parts.ensures.different }) in
    record { ready = begun_ready c.args.game.now c.each_part-parts.result.now c.owners-owners.result.now c.in_ok-start_nodes.start_nodes.items plan.are c.in_ok-start_nodes.ensures }

pub sort_rows_by-requires : goal.sort_rows_by-requires
sort_rows_by-requires g c =
    let plan = plan_lent (each_part_of c.args.plan.now) c.each_part-parts.result.now (owners_of c.args.plan.now) c.owners-owners.result.now c.each_part-parts.ensures.value
    c.owners-owners.ensures.value (record { are = c.owners-owners.ensures.parts; same = c.each_part-parts.ensures.different }) in
    record {
      ready = all_still_ready (is_before 5) c.args.game.now c.each_part-parts.result.now c.in_ok-start_nodes.start_nodes.items c.in_ok-left.left.items
          (begun_ready c.args.game.now c.each_part-parts.result.now c.owners-owners.result.now c.in_ok-start_nodes.start_nodes.items plan.are c.in_ok-start_nodes.ensures) c.in_ok-left.ensures.left;
    }

pub collect_verdicts-requires-clause-found : goal.collect_verdicts-requires-clause-found
collect_verdicts-requires-clause-found g c =
    let plan = plan_lent (each_part_of c.args.plan.now) c.each_part-parts.result.now (owners_of c.args.plan.now) c.owners-owners.result.now c.each_part-parts.ensures.value
    c.owners-owners.ensures.value (record { are = c.owners-owners.ensures.parts; same = c.each_part-parts.ensures.different }) in
    are_found c.args.game.now c.each_part-parts.result.now c.owners-owners.result.now c.in_ok-start_nodes.start_nodes.items c.in_ok-left.left.items c.in_ok-sorted.sorted.left.items
    plan.are c.in_ok-start_nodes.ensures c.in_ok-left.ensures.left c.in_ok-sorted.ensures.left

pub returns-clause-nodes : goal.returns-clause-nodes
returns-clause-nodes g c =
    subst (λ ns. IfOk c.collect_verdicts.result (λ v. nodes_of v ≡ ns)) (ap (map (λ a. hits (owner_query a) c.args.game.now)) c.owners-owners.ensures.value
    ∙ hits_of_all c.args.game.now (owners_of c.args.plan.now)) c.collect_verdicts.ensures.nodes

pub returns-clause-keys : goal.returns-clause-keys
returns-clause-keys g c =
    subst (λ qs. IfOk c.collect_verdicts.result (λ v. HaveKeys c.args.game.now qs (nodes_of v) (keys_of v))) (ap (map (λ a. owner_query a)) c.owners-owners.ensures.value
    ∙ sym (plan_trees (owners_of c.args.plan.now))) c.collect_verdicts.ensures.keys

pub returns-clause-asked : goal.returns-clause-asked
returns-clause-asked g c =
    let plan = plan_lent (each_part_of c.args.plan.now) c.each_part-parts.result.now (owners_of c.args.plan.now) c.owners-owners.result.now c.each_part-parts.ensures.value
    c.owners-owners.ensures.value (record { are = c.owners-owners.ensures.parts; same = c.each_part-parts.ensures.different }) in
    let cost = both_cost c.args.game.now c.each_part-parts.result.now c.owners-owners.result.now c.in_ok-start_nodes.start_nodes.items c.in_ok-left.left.items _ _ _
    plan.are c.in_ok-start_nodes.ensures plan.same c.in_ok-left.ensures.left c.nodes_left_by.ensures.cost
    c.sort_rows_by.ensures.cost in
    let same = ap (asked_cost c.args.game.now) c.owners-owners.ensures.value in
    omega (arith, cost, same)

pub returns-clause-most : goal.returns-clause-most
returns-clause-most g c =
    let plan = plan_lent (each_part_of c.args.plan.now) c.each_part-parts.result.now (owners_of c.args.plan.now) c.owners-owners.result.now c.each_part-parts.ensures.value
    c.owners-owners.ensures.value (record { are = c.owners-owners.ensures.parts; same = c.each_part-parts.ensures.different }) in
    let cost = all_cost c.args.game.now c.each_part-parts.result.now c.owners-owners.result.now _ _
    (both_cost c.args.game.now c.each_part-parts.result.now c.owners-owners.result.now c.in_ok-start_nodes.start_nodes.items c.in_ok-left.left.items _ _ _
    plan.are c.in_ok-start_nodes.ensures plan.same c.in_ok-left.ensures.left c.nodes_left_by.ensures.cost
    c.sort_rows_by.ensures.cost) in
    let same = ap (λ xs. plan_cost c.args.game.now (plan_parts (map (λ a. query_of a.plan) xs))) c.owners-owners.ensures.value in
    omega (arith, cost, same)

pub returns-in_err-left-clause-asked : goal.returns-in_err-left-clause-asked
returns-in_err-left-clause-asked g c =
    let plan = plan_lent (each_part_of c.args.plan.now) c.each_part-parts.result.now (owners_of c.args.plan.now) c.owners-owners.result.now c.each_part-parts.ensures.value
    c.owners-owners.ensures.value (record { are = c.owners-owners.ensures.parts; same = c.each_part-parts.ensures.different }) in
    let cost = first_cost c.args.game.now c.each_part-parts.result.now c.owners-owners.result.now c.in_ok-start_nodes.start_nodes.items _ _ plan.are c.in_ok-start_nodes.ensures plan.same c.nodes_left_by.ensures.cost in
    let same = ap (asked_cost c.args.game.now) c.owners-owners.ensures.value in
    omega (arith, cost, same)

pub returns-in_err-left-clause-most : goal.returns-in_err-left-clause-most
returns-in_err-left-clause-most g c =
    let plan = plan_lent (each_part_of c.args.plan.now) c.each_part-parts.result.now (owners_of c.args.plan.now) c.owners-owners.result.now c.each_part-parts.ensures.value
    c.owners-owners.ensures.value (record { are = c.owners-owners.ensures.parts; same = c.each_part-parts.ensures.different }) in
    let cost = all_cost c.args.game.now c.each_part-parts.result.now c.owners-owners.result.now _ _
    (first_cost c.args.game.now c.each_part-parts.result.now c.owners-owners.result.now c.in_ok-start_nodes.start_nodes.items _ _ plan.are c.in_ok-start_nodes.ensures plan.same c.nodes_left_by.ensures.cost) in
    let same = ap (λ xs. plan_cost c.args.game.now (plan_parts (map (λ a. query_of a.plan) xs))) c.owners-owners.ensures.value in
    omega (arith, cost, same)

pub returns-in_err-sorted-clause-asked : goal.returns-in_err-sorted-clause-asked
returns-in_err-sorted-clause-asked g c =
    let plan = plan_lent (each_part_of c.args.plan.now) c.each_part-parts.result.now (owners_of c.args.plan.now) c.owners-owners.result.now c.each_part-parts.ensures.value
    c.owners-owners.ensures.value (record { are = c.owners-owners.ensures.parts; same = c.each_part-parts.ensures.different }) in
    let cost = both_cost c.args.game.now c.each_part-parts.result.now c.owners-owners.result.now c.in_ok-start_nodes.start_nodes.items c.in_ok-left.left.items _ _ _
    plan.are c.in_ok-start_nodes.ensures plan.same c.in_ok-left.ensures.left c.nodes_left_by.ensures.cost
    c.sort_rows_by.ensures.cost in
    let same = ap (asked_cost c.args.game.now) c.owners-owners.ensures.value in
    omega (arith, cost, same)

pub returns-in_err-sorted-clause-most : goal.returns-in_err-sorted-clause-most
returns-in_err-sorted-clause-most g c =
    let plan = plan_lent (each_part_of c.args.plan.now) c.each_part-parts.result.now (owners_of c.args.plan.now) c.owners-owners.result.now c.each_part-parts.ensures.value
    c.owners-owners.ensures.value (record { are = c.owners-owners.ensures.parts; same = c.each_part-parts.ensures.different }) in
    let cost = all_cost c.args.game.now c.each_part-parts.result.now c.owners-owners.result.now _ _
    (both_cost c.args.game.now c.each_part-parts.result.now c.owners-owners.result.now c.in_ok-start_nodes.start_nodes.items c.in_ok-left.left.items _ _ _
    plan.are c.in_ok-start_nodes.ensures plan.same c.in_ok-left.ensures.left c.nodes_left_by.ensures.cost
    c.sort_rows_by.ensures.cost) in
    let same = ap (λ xs. plan_cost c.args.game.now (plan_parts (map (λ a. query_of a.plan) xs))) c.owners-owners.ensures.value in
    omega (arith, cost, same)
