-- The parts of a move without open names.
use Rattle.std.proofs.Common.{◌≡◌, ℕ, ◌&&◌, Bool, true, List, [], Option, Some, None, option_map, refl, sym, ap, ◌∙◌}
use Rattle.cq_position.specs.Led.{PlainLed, led_to}
use Rattle.cq_position.specs.Search.{SearchedTree}
use Rattle.cql_syntax.specs.Meaning.{Names, meets, meets_all, goal_if, before, played_value, written_value}
use Rattle.cql_syntax.specs.Trees.{WrittenTree}
use Rattle.cql_syntax.specs.TreeOf.{played_tree}
use Rattle.cql_syntax.specs.Values.{Value, as_truth}
use Rattle.cql_syntax.specs.declared.tree.Played.{Played}
use Rattle.cql_columns.specs.Columns.{shown}
use Rattle.cql_columns.specs.declared.filter_column.FilterColumn.{FilterColumn}
use Rattle.cql_candidates.specs.Covers.{AreRetained, IsNecessaryPart, HasSome, IsIndependentPart, MayHold}
use Rattle.cql_candidates.specs.MoveTargets.{move_matches}
use Rattle.cql_candidates.specs.declared.moves.PartColumns.{PartColumns}
use Rattle.cql_candidates.proofs.CoverForms.{KeepsHolding, Tried, first_true, second_true, yes_both}
use Rattle.cql_candidates.proofs.CoverLaw.{cut_as, cut_wide}
use Rattle.cql_eval.specs.Internal.Trials.{AreNecessaryParts}
use Rattle.cql_candidates.proofs.MoveLaw.{IsPartColumn, move_value, origin_of, goal_of, taken_of, promoted_of}

pub asks_nothing : (tree : SearchedTree) (opened outer : Names) (w : WrittenTree) (live : List Bool) → IsNecessaryPart tree opened outer w live None
asks_nothing tree opened outer w live = record { each = λ n inner a agree q met. refl }

pub asks_free : (tree : SearchedTree) (opened outer : Names) (w : WrittenTree) (live : List Bool) (c : Option FilterColumn) → IsIndependentPart opened w → IsPartColumn tree outer live c w
    → IsNecessaryPart tree opened outer w live c
asks_free tree opened outer w live c free column = record {
  each = λ n inner a agree q met. ap (λ x. meets x q) (column n a ∙ sym (free.each tree inner outer n agree)) ∙ met;
}

-- the parts of a move
record Parts : Type 0 where
  origin : Option Value
  goal : Option Value
  taken : Option Value
  promoted : Option Value

-- a move that meets the one parts meets the others
record AskLess (less parts : Parts) : Type 0 where
  at_origin : (q : Option ℕ) → meets parts.origin q ≡ true → meets less.origin q ≡ true
  at_goal : (q : Option ℕ) → meets parts.goal q ≡ true → meets less.goal q ≡ true
  at_taken : (q : Option ℕ) → meets parts.taken q ≡ true → meets less.taken q ≡ true
  at_promoted : (q : Option ℕ) → meets parts.promoted q ≡ true → meets less.promoted q ≡ true

-- a move that meets a condition meets a weaker one
meets_less : (l : Option PlainLed) (less parts : Parts) → AskLess less parts → meets_all l parts.origin parts.goal parts.taken parts.promoted ≡ true
    → meets_all l less.origin less.goal less.taken less.promoted ≡ true
meets_less None less parts asks all = all
meets_less (Some l) less parts asks all =
    let a = meets parts.origin (Some l.origin) in
    let b = meets parts.goal (Some l.goal) in
    let c = meets parts.taken l.taken in
    let d = meets parts.promoted (goal_if l.promoted l.goal) in
    let w = meets less.origin (Some l.origin) in
    let x = meets less.goal (Some l.goal) in
    let y = meets less.taken l.taken in
    let z = meets less.promoted (goal_if l.promoted l.goal) in
    let three = first_true (a && b && c) d all in
    let two = first_true (a && b) c three in
    yes_both (w && x && y) z
    (yes_both (w && x) y
    (yes_both w x (asks.at_origin (Some l.origin) (first_true a b two)) (asks.at_goal (Some l.goal) (second_true a b two)))
    (asks.at_taken l.taken (second_true (a && b) c three)))
    (asks.at_promoted (goal_if l.promoted l.goal) (second_true (a && b && c) d all))

pub free_parts_cut : (t : Tried) (some : List Bool) (p : Played) (parts : PartColumns) (goal : Option FilterColumn) (old new : List ℕ) → HasSome t.tree t.live old some
    → AreNecessaryParts t.tree t.opened t.outer p some parts → IsNecessaryPart t.tree t.opened t.outer (goal_of p) some goal
    → AreRetained some (λ n s. move_matches t.tree parts (option_map (λ c. shown c n) goal) n ≡ true) old new
    → KeepsHolding t (λ e n. as_truth (played_value t.tree [] e (played_tree p) n)) old new
free_parts_cut t some p parts goal old new has asks at_goal cut =
    let tree = t.tree in
    cut_wide tree t.live some (MayHold t.opened t.outer t.name (λ e n. as_truth (played_value tree [] e (played_tree p) n))) old new has
    (cut_as some (MayHold t.opened t.outer t.name (λ e n. as_truth (played_value tree [] e (played_tree p) n)))
    (λ n s. move_matches tree parts (option_map (λ c. shown c n) goal) n ≡ true) old new
    (λ n s a m. meets_less (led_to tree.game.nodes n)
    (record {
      origin = option_map (λ c. shown c (before tree n)) parts.origin;
      goal = option_map (λ c. shown c n) goal;
      taken = option_map (λ c. shown c (before tree n)) parts.taken;
      promoted = option_map (λ c. shown c n) parts.promoted;
    })
    (record {
      origin = written_value tree [] m.inner (origin_of p) (before tree n);
      goal = written_value tree [] m.inner (goal_of p) n;
      taken = written_value tree [] m.inner (taken_of p) (before tree n);
      promoted = written_value tree [] m.inner (promoted_of p) n;
    })
    (record {
      at_origin = λ q h. asks.origin.each (before tree n) m.inner (asks.before_live.covers n a) m.agree q h;
      at_goal = λ q h. at_goal.each n m.inner a m.agree q h;
      at_taken = λ q h. asks.taken.each (before tree n) m.inner (asks.before_live.covers n a) m.agree q h;
      at_promoted = λ q h. asks.promoted.each n m.inner a m.agree q h;
    })
    (sym (move_value tree m.inner p n) ∙ m.holds_there))
    cut)
