use Rattle.std.proofs.Common.{◌≡◌, ◌++◌, length, Some, ap, sym, ◌∙◌, subst}
use Rattle.std.specs.Prelude.{IfSome, filter}
use Rattle.cq_position.specs.Games.{node_at, is_searched}
use Rattle.cq_position.specs.Search.{children_in}
use Rattle.cql_values.specs.Trees.{searched_tree}
use Rattle.cql_values.proofs.Ways.{children_from, all_children, parent_of_first, parent_of_next, inside_of, children_more}
use Rattle.cql_values.proofs.walks.children.Goals as goal

pub loop-next-init : goal.loop-next-init
loop-next-init c =
    let nodes = c.args.game.now.nodes in
    let test = is_searched c.args.variations nodes in
    record {
      nodes = ap (λ l. l ++ filter test (children_from nodes c.args.n c.first_child-next.result)) c.new-nodes.ensures.items
          ∙ ap (λ o. filter test (children_from nodes c.args.n o)) c.first_child-next.ensures.value ∙ sym (ap (filter test) (all_children nodes c.args.n));
      within = inside_of c.first_child-next.result c.args.n (length nodes) c.first_child-next.ensures.after;
      child = parent_of_first nodes c.args.n c.first_child-next.result c.first_child-next.ensures.value;
    }

pub loop-next-preserved : goal.loop-next-preserved
loop-next-preserved c =
    let nodes = c.args.game.now.nodes in
    let child = c.in-Some.child in
    let parent : (node_at nodes child).parent ≡ Some c.args.n = subst (λ o. IfSome o (λ d. (node_at nodes d).parent ≡ Some c.args.n)) c.in-Some.is c.loop-next.invariant.child in
    let had = subst (λ o. c.loop-next.nodes.items ++ filter (is_searched c.args.variations nodes) (children_from nodes c.args.n o)
    ≡ children_in (searched_tree c.args.game.now c.args.variations) c.args.n) c.in-Some.is c.loop-next.invariant.nodes in
    record {
      nodes = children_more nodes c.args.variations c.args.n child c.next_sibling-next.result c.loop-next.nodes.items c.push_if.new.nodes.items
          (children_in (searched_tree c.args.game.now c.args.variations) c.args.n)
          c.is_searched.result parent c.next_sibling-next.ensures.value c.is_searched.ensures c.in_ok-push_if.ensures had;
      within = inside_of c.next_sibling-next.result child (length nodes) c.next_sibling-next.ensures.after;
      child = parent_of_next nodes c.args.n child c.next_sibling-next.result parent c.next_sibling-next.ensures.value;
    }
