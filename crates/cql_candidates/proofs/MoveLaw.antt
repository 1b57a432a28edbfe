-- The parts of a filter of moves, one by one.
use Rattle.std.proofs.Common.{◌≡◌, ℕ, ◌+◌, ◌&&◌, ◌||◌, not, Bool, true, false, List, [], Option, Some, None, option_map, refl, sym, ap, ap₂, ◌∙◌, subst}
use Rattle.std.specs.Prelude.{is_some, if◌then◌else◌}
use Rattle.std.specs.declared.alloc.Global.{Global}
use Rattle.std.specs.declared.boxed.Box.{Box}
use Rattle.cq_position.specs.Games.{Node, node_at}
use Rattle.cq_position.specs.Led.{PlainLed, led, led_to, led_from, taken_square}
use Rattle.cq_position.specs.Legal.{is_none}
use Rattle.cq_position.specs.declared.moves.Move.{Move}
use Rattle.cq_position.specs.Search.{SearchedTree}
use Rattle.cql_syntax.proofs.PlayedParts.{played_is}
use Rattle.cql_syntax.specs.Meaning.{Names, value, meets, meets_all, goal_if, before, played_value, written_value}
use Rattle.cql_syntax.specs.TreeOf.{filter_tree, played_tree, written_tree}
use Rattle.cql_syntax.specs.Trees.{WrittenTree}
use Rattle.cql_syntax.specs.Values.{Value, as_truth}
use Rattle.cql_syntax.specs.declared.tree.Filter.{Filter}
use Rattle.cql_syntax.specs.declared.tree.Played.{Played, out-Played}
use Rattle.cql_columns.specs.Columns.{is_live, shown, IsColumn, Where}
use Rattle.cql_columns.specs.Costs.{filter_cost, played_cost, written_cost}
use Rattle.cql_columns.specs.FlatTrees.{unflat, IsFlat, IsFlatPart}
use Rattle.cql_columns.specs.declared.filter_column.FilterColumn.{FilterColumn}
use Rattle.cql_candidates.specs.MoveTargets.{ArePartColumns, move_matches}
use Rattle.cql_candidates.specs.Promoting.{ArePromoting, is_promotion}
use Rattle.cql_candidates.specs.declared.moves.PartColumns.{PartColumns}

-- the parts of a move as they are written
abbrev pub origin_of : Played → WrittenTree
origin_of p = written_tree (out-Played p).origin

abbrev pub goal_of : Played → WrittenTree
goal_of p = written_tree (out-Played p).goal

abbrev pub taken_of : Played → WrittenTree
taken_of p = written_tree (out-Played p).taken

abbrev pub promoted_of : Played → WrittenTree
promoted_of p = written_tree (out-Played p).promoted

pub move_costs : (nodes : ℕ) (p : Played) → played_cost nodes (played_tree p)
    ≡ written_cost nodes (origin_of p) + written_cost nodes (goal_of p) + written_cost nodes (taken_of p) + written_cost nodes (promoted_of p)
unfolding filter_cost
move_costs nodes p = ap (played_cost nodes) (played_is p)

pub move_value : (tree : SearchedTree) (e : Names) (p : Played) (n : ℕ) → played_value tree [] e (played_tree p) n
    ≡ meets_all (led_to tree.game.nodes n) (written_value tree [] e (origin_of p) (before tree n)) (written_value tree [] e (goal_of p) n)
    (written_value tree [] e (taken_of p) (before tree n)) (written_value tree [] e (promoted_of p) n)
unfolding value
move_value tree e p n = ap (λ m. played_value tree [] e m n) (played_is p)

-- a part's column, where it is written
abbrev pub IsPartColumn : SearchedTree → Names → List Bool → Option FilterColumn → WrittenTree → Type 0
IsPartColumn tree e live c w = Where live (λ n. option_map (λ x. shown x n) c ≡ written_value tree [] e w n)

pub move_is : (tree : SearchedTree) (e : Names) (p : Played) (live : List Bool) (parts : PartColumns) (goal : Option FilterColumn) → ArePartColumns tree e p live parts
    → IsPartColumn tree e live goal (goal_of p) → (n : ℕ) → is_live live n ≡ true
    → as_truth (move_matches tree parts (option_map (λ x. shown x n) goal) n) ≡ as_truth (played_value tree [] e (played_tree p) n)
move_is tree e p live parts goal are is n l =
    let led = led_to tree.game.nodes n in
    ap as_truth (ap₂ (λ x y. meets_all led x y (option_map (λ z. shown z (before tree n)) parts.taken) (option_map (λ z. shown z n) parts.promoted))
    (are.origin n l) (is n l)
    ∙ ap₂ (λ x y. meets_all led (written_value tree [] e (origin_of p) (before tree n)) (written_value tree [] e (goal_of p) n) x y)
    (are.taken n l) (are.promoted n l)
    ∙ sym (move_value tree e p n))

-- a move that isn't a promotion doesn't meet a promotion part
all_fail : (a b c d : Bool) → d ≡ false → (a && b && c && d) ≡ false
all_fail a b c true e = cc
all_fail true true true false e = refl
all_fail true true false false e = refl
all_fail true false c false e = refl
all_fail false b c false e = refl

unmet : (promoted : Bool) (goal : ℕ) (x : Value) → promoted ≡ false → meets (Some x) (goal_if promoted goal) ≡ false
unmet true goal x e = cc
unmet false goal x e = refl

if_unmet : (null : Bool) (l : PlainLed) → l.promoted ≡ false → (a b c : Option Value) (x : Value) → meets_all (if null then None else Some l) a b c (Some x) ≡ false
if_unmet true l away a b c x = refl
if_unmet false l away a b c x = all_fail (meets a (Some l.origin)) (meets b (Some l.goal)) (meets c l.taken) _ (unmet l.promoted l.goal x away)

unpromoted : (nodes : List Node) (o : Option Move) (parent : Option ℕ) → is_promotion o ≡ false → (a b c : Option Value) (x : Value)
    → meets_all (led_from nodes o parent) a b c (Some x) ≡ false
unfolding led
unpromoted nodes None parent away a b c x = refl
unpromoted nodes (Some m) None away a b c x = refl
unpromoted nodes (Some m) (Some p) away a b c x =
    if_unmet m.null (record { origin = m.from; goal = m.to; taken = taken_square (node_at nodes p).position m; promoted = not (is_none m.promotion) }) away a b c x

-- with a promotion part no other move holds
pub only_promoted : (tree : SearchedTree) (e : Names) (p : Played) (n : ℕ) → is_some (out-Played p).promoted ≡ true → is_promotion (node_at tree.game.nodes n).led_by ≡ false
    → played_value tree [] e (played_tree p) n ≡ false
unfolding value
only_promoted tree e p n asked away = move_value tree e p n ∙ by_part (out-Played p).promoted asked
  where
    by_part : (w : Option (Box Filter Global)) → is_some w ≡ true → meets_all (led_to tree.game.nodes n) (written_value tree [] e (origin_of p) (before tree n))
        (written_value tree [] e (goal_of p) n) (written_value tree [] e (taken_of p) (before tree n)) (written_value tree [] e (written_tree w) n) ≡ false
    by_part None is = cc
    by_part (Some f) is = unpromoted tree.game.nodes (node_at tree.game.nodes n).led_by (node_at tree.game.nodes n).parent away _ _ _ _

pub left_out : (there wanted promoted : Bool) → there ≡ (true && (not wanted || promoted)) → there ≡ false → (wanted ≡ true) × (promoted ≡ false)
left_out true wanted promoted is away = cc
left_out false true false is away = (refl, refl)
left_out false true true is away = cc
left_out false false promoted is away = cc

-- a truth that holds is found among the nodes that are looked at
pub met_is : (tree : SearchedTree) (e : Names) (p : Played) (live some : List Bool) (wanted met : Bool) (n : ℕ) → wanted ≡ is_some (out-Played p).promoted
    → ArePromoting tree wanted live some → is_live live n ≡ true → (is_live some n ≡ true → as_truth met ≡ as_truth (played_value tree [] e (played_tree p) n))
    → as_truth (is_live some n && met) ≡ as_truth (played_value tree [] e (played_tree p) n)
met_is tree e p live some wanted met n asks looked l there = by_look (is_live some n) refl
  where
    by_look : (b : Bool) → is_live some n ≡ b → as_truth (is_live some n && met) ≡ as_truth (played_value tree [] e (played_tree p) n)
    by_look true in_ = ap (λ x. as_truth (x && met)) in_ ∙ there in_
    by_look false out_ =
        let why = left_out (is_live some n) wanted _ (looked.each n ∙ ap (λ x. x && (not wanted || is_promotion (node_at tree.game.nodes n).led_by)) l) out_ in
        ap as_truth (ap (λ x. x && met) out_ ∙ sym (only_promoted tree e p n (sym asks ∙ why.0) why.1))

pub part_is : (tree : SearchedTree) (e : Names) (live : List Bool) (w : Option (Box Filter Global)) (boxed : Box Filter Global) (f : Filter) (c : FilterColumn) → w ≡ Some boxed → f ≡ boxed.value
    → IsColumn c live (value tree [] e (filter_tree f)) → IsPartColumn tree e live (Some c) (written_tree w)
unfolding value
part_is tree e live w boxed f c is same column = λ n l.
    ap Some (column n l ∙ ap (λ x. value tree [] e (filter_tree x) n) same) ∙ sym (ap (λ x. written_value tree [] e (written_tree x) n) is)

pub no_part_is : (tree : SearchedTree) (e : Names) (live : List Bool) (w : Option (Box Filter Global)) → w ≡ None → IsPartColumn tree e live None (written_tree w)
unfolding value
no_part_is tree e live w is = λ n l. sym (ap (λ x. written_value tree [] e (written_tree x) n) is)

pub part_flat : (w : Option (Box Filter Global)) (boxed : Box Filter Global) (f : Filter) → w ≡ Some boxed → f ≡ boxed.value → IsFlatPart (written_tree w) → IsFlat (filter_tree f)
unfolding unflat
part_flat w boxed f is same flat = subst (λ x. IsFlat (filter_tree x)) (sym same) (subst (λ x. IsFlatPart (written_tree x)) is flat)

pub part_costs : (nodes : ℕ) (w : Option (Box Filter Global)) (boxed : Box Filter Global) (f : Filter) → w ≡ Some boxed → f ≡ boxed.value
    → written_cost nodes (written_tree w) ≡ filter_cost nodes (filter_tree f)
unfolding filter_cost
part_costs nodes w boxed f is same = ap (λ x. written_cost nodes (written_tree x)) is ∙ ap (λ x. filter_cost nodes (filter_tree x)) (sym same)
