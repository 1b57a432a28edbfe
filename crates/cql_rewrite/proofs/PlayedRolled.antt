-- A filter of the move that is made of its parts.
use Rattle.std.proofs.Common.{◌≡◌, ap, ◌∙◌}
use Rattle.cql_syntax.proofs.PlayedParts.{played_is}
use Rattle.cql_syntax.specs.TreeOf.{played_tree, written_tree}
use Rattle.cql_syntax.specs.Trees.{move_of}
use Rattle.cql_syntax.specs.declared.tree.Played.{roll-Played, out-roll-Played}

pub played_rolled : (x : _) → played_tree (roll-Played x) ≡ move_of (written_tree x.origin) (written_tree x.goal) (written_tree x.taken) (written_tree x.promoted)
played_rolled x =
    played_is (roll-Played x) ∙ ap (λ y. move_of (written_tree y.origin) (written_tree y.goal) (written_tree y.taken) (written_tree y.promoted)) (out-roll-Played x)
