use Rattle.cql_lines.proofs.Puts.{push_keeps}
use Rattle.cql_lines.proofs.shape.Shape.push.Goals as goal

pub invariant_of-self : goal.invariant_of-self
invariant_of-self c =
    let old = c.args.self.now in
    let tree = push_keeps old.primary old.tree_nodes.items c.push.new.self.items _ _ c.push.ensures.items c.requires.parent c.requires.searched record { below = old.below; whole = old.whole } in
    record { below = tree.below; whole = tree.whole; short = old.short }
