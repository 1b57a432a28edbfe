use Rattle.std.proofs.Common.{◌≡◌, ◌<◌, Global, Vec, [], ◌∷◌, ◌++◌, length, get_or, map, append_assoc, ap, sym, ◌∙◌, subst, rules, arith}
use Rattle.cql_syntax.specs.QueryTrees.{trees_of}
use Rattle.cq_shared.specs.Plans.{queries_of}
use Rattle.cq_shards.specs.declared.answers.GameAnswer.{GameAnswer}
use Rattle.cq_search.specs.Internal.ManyWriting.{AreInOrder}
use Rattle.cq_search.proofs.ManyEnds.{all_ordered, more_ordered, none_ordered_yet, ordered_by, ordered_few}
use Rattle.cq_search.proofs.outputs.all_by_keys.Goals as goal

pub loop-matches-init : goal.loop-matches-init
loop-matches-init c =
    let queries = trees_of (queries_of c.args.plan.now) in (
      search rules,
      subst (λ os. AreInOrder queries [] (map (λ (row : Vec GameAnswer Global). row.items) os)) (sym c.new-ordered.ensures.items) (none_ordered_yet queries),
    )

pub loop-matches-preserved : goal.loop-matches-preserved
loop-matches-preserved c =
    let queries = queries_of c.args.plan.now in
    let was = c.loop-matches.invariant in
    let ys = c.loop-matches.yielded in
    let os = c.loop-matches.ordered.items in
    let matches = c.in-Some.matches in
    let sorted = c.in_ok-by_keys.field-0 in
    let more = c.next.new.self.rest.items in
    let is = was.0 ∙ ap (λ l. ys ++ l) c.in-Some.ensures.steps.0 in
    let few = ordered_few (λ (row : Vec GameAnswer Global). row.items) (trees_of queries) c.args.kept.items ys more os matches is was.1 in
    let count : c.len.result ≡ length os = omega arith in
    let query = subst (λ n. c.query-query.result.now ≡ get_or queries n c.query-query.result.now) count c.query-query.ensures in (
      is ∙ sym (append_assoc ys (matches ∷ []) more),
      more_ordered (λ (row : Vec GameAnswer Global). row.items) (trees_of queries) ys os c.push.new.self.items matches sorted was.1 c.in_ok-push.ensures.items
          (ordered_by queries (length os) c.query-query.result.now matches.items sorted.items (subst (λ n. length os < n) c.requires few) query c.in_ok-by_keys.ensures.same
          c.in_ok-by_keys.ensures.order),
    )

pub returns : goal.returns
returns c =
    all_ordered (λ (row : Vec GameAnswer Global). row.items) (trees_of (queries_of c.args.plan.now)) c.args.kept.items c.loop-matches.yielded c.loop-matches.matches-iterator.rest.items
    c.loop-matches.ordered.items c.loop-matches.invariant.0 (search rules) c.loop-matches.invariant.1
