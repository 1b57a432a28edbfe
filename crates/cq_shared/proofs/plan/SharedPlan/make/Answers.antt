use Rattle.std.proofs.Common.{◌∙◌, ap, sym, subst, arith, map, length}
use Rattle.std.proofs.lemmas.List.{take_all}
use Rattle.cq_shared.specs.PartOwners.{owner_query, AreOwners}
use Rattle.cq_shared.specs.Parts.{parts_in_all, different}
use Rattle.cql_syntax.specs.QueryTrees.{trees_of}
use Rattle.cq_shared.proofs.Makings.{askers_more, trees_more, equal_if, askers_none, parts_none, trees_none, parts_later, plan_trees, counted_more}
use Rattle.cq_shared.proofs.Tables.{table_none}
use Rattle.cq_shared.proofs.plan.SharedPlan.make.Goals as goal

pub loop-q-init : goal.loop-q-init
loop-q-init c = record {
  count = ap length c.new-owners.ensures.items;
  trees = trees_none c.args.queries.now c.new-owners.result.items c.new-owners.ensures.items;
  table = table_none c.in_ok-places.places.items c.new-parts.result.items (omega (arith, c.in_ok-places.ensures, c.count_all.ensures)) c.new-parts.ensures.items;
  parts = parts_none c.new-parts.result.items c.new-owners.result.items c.new-parts.ensures.items c.new-owners.ensures.items;
  owners = askers_none c.new-parts.result.items c.new-owners.result.items c.new-parts.ensures.items c.new-owners.ensures.items;
}

pub owner_of-requires-clause-fresh : goal.owner_of-requires-clause-fresh
owner_of-requires-clause-fresh c = λ k. c.loop-q.invariant.owners.others k c.loop-q.q (omega (arith, c.loop-q.invariant.count))

pub loop-q-preserved : goal.loop-q-preserved
loop-q-preserved c =
    let a = c.in_ok-owner.owner in
    let queries = c.args.queries.now in
    let old = c.loop-q.parts.items in
    let later = c.owner_of.new.parts.items in
    let owners = c.loop-q.owners.items in
    record {
      count = counted_more owners c.push.new.self.items a c.loop-q.q c.in_ok-push.ensures.items c.loop-q.invariant.count;
      trees = ap (map (λ x. owner_query x)) c.in_ok-push.ensures.items
          ∙ trees_more queries owners a c.loop-q.q c.index-queries-q.result c.loop-q-test.true c.index-queries-q.is
          c.loop-q.invariant.trees c.in_ok-owner.ensures.query;
      table = c.in_ok-owner.ensures.table;
      parts = parts_later old later owners a _ c.in_ok-owner.ensures.parts c.in_ok-owner.ensures.query c.loop-q.invariant.parts
          ∙ ap (λ xs. different (parts_in_all (map (λ x. owner_query x) xs))) (sym c.in_ok-push.ensures.items);
      owners = subst (AreOwners later) (sym c.in_ok-push.ensures.items)
          (askers_more old later owners a c.loop-q.q (sym c.loop-q.invariant.count) c.in_ok-owner.ensures.kept c.in_ok-owner.ensures.asked c.loop-q.invariant.owners c.in_ok-owner.ensures.owner);
    }

pub invariant_of-plan : goal.invariant_of-plan
invariant_of-plan c = record {
  owners_are = c.loop-q.invariant.owners;
  parts_are = equal_if _ _ c.loop-q.invariant.parts;
  few = omega (arith, c.loop-q.invariant.count, c.requires.few, c.loop-q.auto.q-end);
  counted = omega arith;
}

pub returns : goal.returns
returns c =
    plan_trees c.loop-q.owners.items ∙ c.loop-q.invariant.trees ∙ ap trees_of (take_all c.loop-q.q c.args.queries.now c.loop-q-test.false)
