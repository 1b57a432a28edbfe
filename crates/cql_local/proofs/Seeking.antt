-- The moves after which a filter may hold.
use Rattle.std.proofs.Common.{◌≡◌, ℕ, Bool, true, false, ◌&&◌, List, [], Option, Some, None, refl, sym, ap, ◌∙◌}
use Rattle.std.specs.Prelude.{IfSome}
use Rattle.cq_position.specs.Games.{Node}
use Rattle.cq_position.specs.Led.{PlainLed, led_to}
use Rattle.cq_position.specs.Search.{SearchedTree}
use Rattle.cql_syntax.specs.Meaning.{Names, value, written_value, meets, meets_all, goal_if, before}
use Rattle.cql_syntax.specs.TreeOf.{filter_tree, form_tree}
use Rattle.cql_syntax.specs.Trees.{FilterTree, WrittenTree, filter_at, left_out, written}
use Rattle.cql_syntax.specs.Values.{Value, holds}
use Rattle.cql_syntax.specs.declared.tree.Filter.{Filter}
use Rattle.cql_syntax.specs.declared.tree.Form.{Played as Played'}
use Rattle.cql_syntax.specs.declared.tree.Played.{Played}
use Rattle.cql_values.proofs.Ranges.{both}
use Rattle.cql_local.specs.Internal.MovesSought.{AreMoveEnds, IsBound, LedByAllowedMove, HoldsAfterMoves, MayMeet, allows}
use Rattle.cql_local.specs.declared.move_ends.MoveEnds.{MoveEnds}
use Rattle.cql_local.specs.declared.moves_sought.MoveConstraint.{MoveConstraint}
use Rattle.cql_local.proofs.Cutting.{four, move_value, origin_of, goal_of, taken_of, promoted_of}

-- a part that is a name, or that may be any square
pub bound_meets : (e : Names) (f : FilterTree) (set : Option ℕ) → IfSome set (IsBound e f) → MayMeet e (written f) set
unfolding value
bound_meets e f None is = record { keeps = λ tree n s h. refl }
bound_meets e f (Some set) is = record { keeps = λ tree n s h. sym (ap (λ has_it. has_it s) (is.same tree n)) ∙ h }

pub any_meets : (e : Names) (w : WrittenTree) → MayMeet e w None
any_meets e w = record { keeps = λ tree n s h. refl }

-- all parts agree with the move
all_met : (o : Option PlainLed) (x y z w : Option Value) (moves : MoveConstraint) (nodes : List Node) (n : ℕ) → led_to nodes n ≡ o → ((s : ℕ) → meets x (Some s) ≡ true → allows moves.origins s ≡ true)
    → ((s : ℕ) → meets y (Some s) ≡ true → allows moves.goals s ≡ true) → meets_all o x y z w ≡ true → LedByAllowedMove moves nodes n
all_met None x y z w moves nodes n is origins goals h = cc
all_met (Some l) x y z w moves nodes n is origins goals h =
    let all = four (meets x (Some l.origin)) (meets y (Some l.goal)) (meets z l.taken) (meets w (goal_if l.promoted l.goal)) h in
    record { led = l; is = is; origin = origins l.origin all.0; goal = goals l.goal all.1 }

pub move_sought : (e : Names) (f : Filter) (p : Played) (moves : MoveConstraint) → f.form ≡ Played' p → MayMeet e (origin_of p) moves.origins → MayMeet e (goal_of p) moves.goals
    → HoldsAfterMoves e (filter_tree f) moves
unfolding value
move_sought e f p moves is origins goals = record {
  led = λ moved tree n h. all_met (led_to tree.game.nodes n) (written_value tree [] e (origin_of p) (before tree n)) (written_value tree [] e (goal_of p) n)
      (written_value tree [] e (taken_of p) (before tree n)) (written_value tree [] e (promoted_of p) n) moves tree.game.nodes n refl
      (λ s m. origins.keeps tree (before tree n) s m) (λ s m. goals.keeps tree n s m)
      (sym (move_value tree e p n) ∙ sym (ap (λ form. holds (value tree [] e (filter_at f.at (form_tree form)) n)) is) ∙ h);
}

pub any_sought : (e : Names) (f : FilterTree) (moves : MoveConstraint) → moves.moved ≡ false → HoldsAfterMoves e f moves
any_sought e f moves none = record { led = λ moved tree n h. absurd (let f = sym none ∙ moved in cc) }

-- the ends of a move after which a filter may hold
pub ends_allowed : (moves : MoveConstraint) (nodes : List Node) (n : ℕ) (e : MoveEnds) → AreMoveEnds nodes n e → LedByAllowedMove moves nodes n → (allows moves.origins e.origin && allows moves.goals e.goal) ≡ true
ends_allowed moves nodes n e ends led =
    let same : led.led ≡ ends.led = (let h = sym led.is ∙ ends.is in cc) in
    both (allows moves.origins e.origin) (allows moves.goals e.goal)
    (ap (allows moves.origins) (sym ends.origin ∙ sym (ap (λ l. l.origin) same)) ∙ led.origin)
    (ap (allows moves.goals) (sym ends.goal ∙ sym (ap (λ l. l.goal) same)) ∙ led.goal)

pub no_ends_led : (moves : MoveConstraint) (nodes : List Node) (n : ℕ) → led_to nodes n ≡ None → LedByAllowedMove moves nodes n → ⊥
no_ends_led moves nodes n none led = let h = sym none ∙ led.is in cc

-- a filter doesn't hold if something that follows from it is false
pub not_held : (holds_here passes : Bool) → (holds_here ≡ true → passes ≡ true) → passes ≡ false → false ≡ holds_here
not_held true passes implies is = let h = implies refl in cc
not_held false passes implies is = refl
