-- Two filters of the move are the same where their parts are, one by one.
use Rattle.std.proofs.Common.{◌≡◌, Bool, true, false, ◌&&◌, refl, ap₂}
use Rattle.cql_syntax.specs.Same.{same_filter, same_played, same_written}
use Rattle.cql_syntax.proofs.PlayedParts.{played_is}
use Rattle.cql_syntax.specs.TreeOf.{played_tree, written_tree}
use Rattle.cql_syntax.specs.Trees.{WrittenTree}
use Rattle.cql_syntax.specs.Unplaced.{with_places, played_with, written_with}
use Rattle.cql_syntax.specs.declared.tree.Played.{Played, out-Played}

abbrev part_same : Bool → WrittenTree → WrittenTree → Bool
part_same placed v w = same_written (written_with placed v) (written_with placed w)

pub same_parts_of : (placed : Bool) (a b : Played) → same_played (played_with placed (played_tree a)) (played_with placed (played_tree b))
    ≡ (part_same placed (written_tree (out-Played a).origin) (written_tree (out-Played b).origin)
    && part_same placed (written_tree (out-Played a).goal) (written_tree (out-Played b).goal)
    && part_same placed (written_tree (out-Played a).taken) (written_tree (out-Played b).taken)
    && part_same placed (written_tree (out-Played a).promoted) (written_tree (out-Played b).promoted))
unfolding same_filter with_places
same_parts_of placed a b = ap₂ (λ x y. same_played (played_with placed x) (played_with placed y)) (played_is a) (played_is b)

abbrev pub promoted_same : Bool → Played → Played → Bool
promoted_same placed a b = part_same placed (written_tree (out-Played a).promoted) (written_tree (out-Played b).promoted)

pub third_differs : (a b c d : Bool) → a ≡ true → b ≡ true → c ≡ false → (a && b && c && d) ≡ false
third_differs a b c d p q r = rw (p, q, r) refl

pub fourth_decides : (a b c d : Bool) → a ≡ true → b ≡ true → c ≡ true → (a && b && c && d) ≡ d
fourth_decides a b c d p q r = rw (p, q, r) refl
