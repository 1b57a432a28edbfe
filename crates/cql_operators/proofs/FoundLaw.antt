-- The values of a word that evaluates its part at other nodes.
use Rattle.std.proofs.Common.{◌≡◌, ℕ, ◌<◌, ◌&&◌, ◌||◌, Bool, true, false, List, length, get_or, Option, Some, None, refl, sym, ap, ◌∙◌, arith, inr, ⊎_elim}
use Rattle.std.specs.Prelude.{option_to_list, replicate}
use Rattle.std.specs.List.{list_any}
use Rattle.cq_position.specs.Games.{Node, node_at, is_below, is_child_of, is_searched, way_up}
use Rattle.cq_position.specs.Search.{SearchedTree}
use Rattle.cql_syntax.specs.Meaning.{unary_of}
use Rattle.cql_syntax.specs.Values.{Value, as_truth, holds}
use Rattle.cql_syntax.specs.declared.leaves.Unary.{Unary}
use Rattle.cql_syntax.specs.declared.leaves.Unary.TheVariants.{Not, Complement, Count, Power, Light, Dark, Find, FindUp, Child, Parent}
use Rattle.cql_values.proofs.Ranges.{same_truth, both, in_range}
use Rattle.cql_columns.specs.Columns.{is_live, IsNodeSet, AreTruths, IsColumn, IsNarrowed}
use Rattle.cql_columns.specs.declared.filter_column.FilterColumn.{FilterColumn}
use Rattle.cql_columns.proofs.Filling.{live_below}
use Rattle.cql_columns.proofs.FindLaw.{any_below}
use Rattle.cql_operators.specs.OtherNodes.{ReadsFrom, is_from_other_nodes, FindSourceNodes, CoverSourceNodes}
use Rattle.cql_operators.specs.Trees.{Searched, flag_of, AreWithAncestors, AreWithDescendants, HasParents}
use Rattle.cql_operators.proofs.OtherNodesLaw.{holds_at}
use Rattle.cql_operators.proofs.Parents.{none_there}
use Rattle.cql_operators.proofs.Raising.{is_child}
use Rattle.cql_operators.proofs.UnaryLaws.{any_at, any_child, start_wide, start_holds, starts}

-- the nodes at which each word holds, by the nodes at which its part does
pub raised_found : (nodes : List Node) (set found : List Bool) → AreWithAncestors nodes set found → FindSourceNodes nodes Find set found
raised_found nodes set found is = record { each = λ n low. is.each n }

pub lowered_found : (nodes : List Node) (set found : List Bool) → AreWithDescendants nodes set found → FindSourceNodes nodes FindUp set found
lowered_found nodes set found is = record { each = λ n low. is.each n low }

pub parents_found : (nodes : List Node) (set start found : List Bool) (count : ℕ) → start ≡ replicate count false → HasParents nodes set start found → FindSourceNodes nodes Child set found
parents_found nodes set start found count empty is = record {
  each = λ n low. (λ e. ⊎_elim (λ s. absurd (none_there start count n empty s)) (λ by. by) ((is.each n).0 e), λ by. (is.each n).1 (inr by));
}

pub flags_found : (nodes : List Node) (set found : List Bool) → ((n : ℕ) → n < length nodes → get_or found n false ≡ flag_of set (node_at nodes n).parent) → FindSourceNodes nodes Parent set found
flags_found nodes set found flags = record {
  each = λ n low. (λ e. by n (node_at nodes n).parent refl (sym (flags n low) ∙ e), λ x. flags n low ∙ ap (flag_of set) x.2 ∙ x.1);
}
  where
    by : (n : ℕ) (o : Option ℕ) → (node_at nodes n).parent ≡ o → flag_of set o ≡ true → (m : ℕ) × (get_or set m false ≡ true) × ((node_at nodes n).parent ≡ Some m)
    by n None is e = cc
    by n (Some p) is e = (p, e, is)

pub never_found : (nodes : List Node) (word : Unary) (set found : List Bool) → is_from_other_nodes word ≡ false → is_from_other_nodes word ≡ true → FindSourceNodes nodes word set found
never_found nodes word set found away sure = absurd (let no : false ≡ true = sym away ∙ sure in cc)

-- a word holds if its part holds at a node at which the word evaluates it
held_at : (tree : SearchedTree) (word : Unary) (v : ℕ → Value) (n m : ℕ) → is_from_other_nodes word ≡ true → ReadsFrom tree.game.nodes word n m → m < length tree.game.nodes → Searched tree m
    → holds (v m) ≡ true → holds (unary_of tree word v n) ≡ true
held_at tree Find v n m sure asks low seen h =
    any_below tree (λ k. holds (v k)) n
    ∙ in_range (λ k. is_searched tree.variations tree.game.nodes k && (is_below tree.game.nodes n k && holds (v k))) 0 (length tree.game.nodes) m (omega arith) (omega (arith, low))
    (both (is_searched tree.variations tree.game.nodes m) (is_below tree.game.nodes n m && holds (v m)) seen (both (is_below tree.game.nodes n m) (holds (v m)) asks h))
held_at tree FindUp v n m sure asks low seen h = any_at (λ k. holds (v k)) m (way_up tree.game.nodes n) asks h
held_at tree Child v n m sure asks low seen h =
    any_child tree (λ k. holds (v k)) n
    ∙ in_range (λ k. is_child_of tree.game.nodes n k && (is_searched tree.variations tree.game.nodes k && holds (v k))) 0 (length tree.game.nodes) m (omega arith) (omega (arith, low))
    (both (is_child_of tree.game.nodes n m) (is_searched tree.variations tree.game.nodes m && holds (v m)) (is_child n (node_at tree.game.nodes m).parent asks)
    (both (is_searched tree.variations tree.game.nodes m) (holds (v m)) seen h))
held_at tree Parent v n m sure asks low seen h = ap (λ o. list_any (λ k. holds (v k)) (option_to_list o)) asks ∙ ap (λ b. b || false) h
held_at tree Not v n m sure asks low seen h = cc
held_at tree Complement v n m sure asks low seen h = cc
held_at tree Count v n m sure asks low seen h = cc
held_at tree Power v n m sure asks low seen h = cc
held_at tree Light v n m sure asks low seen h = cc
held_at tree Dark v n m sure asks low seen h = cc

truth_of : (tree : SearchedTree) (word : Unary) (v : ℕ → Value) (n : ℕ) → is_from_other_nodes word ≡ true → as_truth (holds (unary_of tree word v n)) ≡ unary_of tree word v n
truth_of tree Find v n sure = refl
truth_of tree FindUp v n sure = refl
truth_of tree Child v n sure = refl
truth_of tree Parent v n sure = refl
truth_of tree Not v n sure = cc
truth_of tree Complement v n sure = cc
truth_of tree Count v n sure = cc
truth_of tree Power v n sure = cc
truth_of tree Light v n sure = cc
truth_of tree Dark v n sure = cc

-- The nodes at which a word evaluates its part, if the word is evaluated at the live nodes, and those of them at which the part holds.
pub record HeldElsewhere (tree : SearchedTree) (word : Unary) (live : List Bool) (v : ℕ → Value) (set : List Bool) : Type 0 where
  pub wide : List Bool
  pub column : FilterColumn
  pub looked : CoverSourceNodes tree word live wide
  pub is : IsColumn column wide v
  pub narrowed : IsNarrowed wide column true set

pub elsewhere_is : (tree : SearchedTree) (word : Unary) (live set found : List Bool) (v : ℕ → Value) → is_from_other_nodes word ≡ true → IsNodeSet tree live
    → HeldElsewhere tree word live v set → FindSourceNodes tree.game.nodes word set found → AreTruths found live (unary_of tree word v)
elsewhere_is tree word live set found v sure known held from = λ n l.
    let low : n < length tree.game.nodes = omega (arith, live_below live n l, known.count) in
    ap as_truth (same_truth (get_or found n false) (holds (unary_of tree word v n)) (to n low) (back n low l)) ∙ truth_of tree word v n sure
  where
    to : (n : ℕ) → n < length tree.game.nodes → get_or found n false ≡ true → holds (unary_of tree word v n) ≡ true
    to n low e =
        let x = (from.each n low).0 e in
        let there = start_wide held.wide held.wide held.wide set held.column v refl refl held.is held.narrowed x.0 x.1 in
        held_at tree word v n x.0 sure x.2 (omega (arith, live_below held.wide x.0 there, held.looked.asked.count)) (held.looked.asked.searched x.0 there)
        (start_holds held.wide held.wide held.wide set held.column v refl refl held.is held.narrowed x.0 x.1)

    back : (n : ℕ) → n < length tree.game.nodes → is_live live n ≡ true → holds (unary_of tree word v n) ≡ true → get_or found n false ≡ true
    back n low l e =
        let at = holds_at tree word v n sure e in
        (from.each n low).1
        (at.m, starts held.wide held.wide held.wide set held.column v refl refl held.is held.narrowed at.m (held.looked.covers n at.m l at.asks at.down) at.holds_there, at.asks)
