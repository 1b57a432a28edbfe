-- A filter of the move as its parts.
use Rattle.std.proofs.Common.{◌≡◌, refl, sym, ap, ap₂, ◌∙◌}
use Rattle.cql_syntax.specs.TreeOf.{played_tree, held_tree, written_tree}
use Rattle.cql_syntax.specs.Trees.{move_of}
use Rattle.cql_syntax.specs.declared.tree.Played.{Played, Played', out-Played, outs-Played', Held-Played-origin, view-Played-origin, None', Some'}

held_is : (held : Held-Played-origin) → written_tree (view-Played-origin held) ≡ held_tree held
held_is None' = refl
held_is (Some' p i f) = refl

pub played_is : (p : Played)
    → played_tree p ≡ move_of (written_tree (out-Played p).origin) (written_tree (out-Played p).goal) (written_tree (out-Played p).taken) (written_tree (out-Played p).promoted)
played_is (Played' origin goal taken promoted) =
    sym (ap (λ y. move_of (written_tree y.origin) (written_tree y.goal) (written_tree y.taken) (written_tree y.promoted)) (outs-Played' origin goal taken promoted)
    ∙ ap₂ (λ x y. move_of x y (written_tree (view-Played-origin taken)) (written_tree (view-Played-origin promoted))) (held_is origin) (held_is goal)
    ∙ ap₂ (move_of (held_tree origin) (held_tree goal)) (held_is taken) (held_is promoted))
