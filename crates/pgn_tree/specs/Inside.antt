-- The views of this crate's types in contracts.
use Rattle.std.specs.Prelude.{ℕ, List, map}
use Rattle.pgn_tree.specs.declared.tags.Tags.TheInside.{Inside as TagsInside}
use Rattle.pgn_tree.specs.declared.node.Node.TheInside.{Inside as NodeInside}
use Rattle.pgn_tree.specs.Links.{LinkedNode}

-- the names and values of a map
abbrev pub tags_inside : TagsInside → List (List ℕ × List ℕ)
tags_inside t = map {B = List ℕ × List ℕ} (λ e. (e.0.items, e.1)) t.pairs.entries

abbrev pub node_inside : NodeInside → LinkedNode
node_inside n = record {
  node = record { parent = n.parent; led_by = n.led_by; position = n.position; nags = n.notes.nags; comments = n.notes.comments };
  first_child = n.first_child;
  last_child = n.last_child;
  next_sibling = n.next_sibling;
  main = n.main;
}
