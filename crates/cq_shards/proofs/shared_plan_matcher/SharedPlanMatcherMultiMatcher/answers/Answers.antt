use Rattle.std.proofs.Common.{◌-◌, ◌++◌, ◌∷◌, [], ap, arith, Ok, ◌∙◌}
use Rattle.cql_syntax.specs.TreeOf.{query_tree}
use Rattle.cql_syntax.specs.QueryTrees.{trees_of}
use Rattle.cq_shared.specs.Plans.{queries_of}
use Rattle.cq_shared.specs.Verdicts as all
use Rattle.cq_shards.specs.Answers.{answer_of}
use Rattle.cq_shards.proofs.RowAnswers.{one_back}
use Rattle.cq_shards.proofs.PlanAnswers.{found_count, from_first, hits_at, keys_at, tree_at, tree_count}
use Rattle.cq_shards.proofs.shared_plan_matcher.SharedPlanMatcherMultiMatcher.answers.Goals as goal

pub query-query-requires : goal.query-query-requires
query-query-requires c = let some = c.loop-q-test.true in let most = c.loop-q.auto.q in let is = c.len-q.ensures in omega (arith, some, most, is)

pub nodes-requires : goal.nodes-requires
nodes-requires c =
    let some = c.loop-q-test.true in
    let most = c.loop-q.auto.q in
    let is = c.len-q.ensures in
    let many = found_count (queries_of c.args.self.now.plan.now) c.args.game.now (all.nodes_of c.in_ok-found.found) c.in_ok-found.ensures.nodes in
    omega (arith, some, most, is, many)

pub keys-requires : goal.keys-requires
keys-requires c =
    let some = c.loop-q-test.true in
    let most = c.loop-q.auto.q in
    let is = c.len-q.ensures in
    let many = found_count (queries_of c.args.self.now.plan.now) c.args.game.now (all.nodes_of c.in_ok-found.found) c.in_ok-found.ensures.nodes in
    omega (arith, some, most, is, many)

pub build_answer-requires-clause-nodes : goal.build_answer-requires-clause-nodes
build_answer-requires-clause-nodes c =
    let queries = queries_of c.args.self.now.plan.now in
    let query = c.query-query.result.now in
    let some = c.loop-q-test.true in
    let most = c.loop-q.auto.q in
    let is = c.len-q.ensures in
    let many = tree_count queries in
    c.nodes.ensures ∙ hits_at (trees_of queries) c.args.game.now (all.nodes_of c.in_ok-found.found) (c.loop-q.q - 1) (query_tree query.query) (omega (arith, some, most, is, many))
    (tree_at queries (c.loop-q.q - 1) query (omega (arith, some, most, is)) c.query-query.ensures) c.in_ok-found.ensures.nodes

pub build_answer-requires-clause-keys : goal.build_answer-requires-clause-keys
build_answer-requires-clause-keys c =
    let queries = queries_of c.args.self.now.plan.now in
    let query = c.query-query.result.now in
    let some = c.loop-q-test.true in
    let most = c.loop-q.auto.q in
    let is = c.len-q.ensures in
    let many = tree_count queries in
    let found = c.in_ok-found.found in
    keys_at c.args.game.now (trees_of queries) (all.nodes_of found) (all.keys_of found) (c.loop-q.q - 1) c.in_ok-found.ensures.keys (record {
      query = query_tree query.query;
      nodes = c.nodes.result.now;
      values = c.keys.result.now;
      inside = omega (arith, some, most, is, many);
      at = tree_at queries (c.loop-q.q - 1) query (omega (arith, some, most, is)) c.query-query.ensures;
      are = c.nodes.ensures;
      these = c.keys.ensures;
    })

pub loop-q-preserved : goal.loop-q-preserved
loop-q-preserved c =
    let queries = queries_of c.args.self.now.plan.now in
    let query = c.query-query.result.now in
    let some = c.loop-q-test.true in
    let most = c.loop-q.auto.q in
    let is = c.len-q.ensures in
    let many = tree_count queries in
    one_back (trees_of queries) c.loop-q.q (query_tree query.query) c.args.index (Ok c.args.game.now) c.loop-q.answers.items c.push.new.self.items
    (omega (arith, some)) (omega (arith, most, is, many)) c.loop-q.invariant
    (c.in_ok-push.ensures.items ∙ ap (λ a. c.loop-q.answers.items ++ a ∷ []) (c.in_ok-answer.ensures
    ∙ ap (λ q. answer_of q c.args.index (Ok c.args.game.now)) (tree_at queries (c.loop-q.q - 1) query (omega (arith, some, most, is)) c.query-query.ensures)))

pub returns : goal.returns
returns c =
    let none = c.loop-q-test.false in
    from_first (trees_of (queries_of c.args.self.now.plan.now)) c.loop-q.q c.args.index (Ok c.args.game.now) c.loop-q.answers.items (omega (arith, none)) c.loop-q.invariant
