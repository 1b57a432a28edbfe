-- The way up from a node by its parent, and the nodes below another. The way up from a searched node is searched.
use Rattle.std.proofs.Common.{◌≡◌, ℕ, ◌<◌, ◌≤◌, Bool, true, false, ◌&&◌, ◌||◌, List, [], ◌∷◌, length, Option, Some, None, refl, sym, ap, ◌∙◌, subst, arith, inl, inr, get_or}
use Rattle.std.specs.Prelude.{◌==◌, All, Contains}
use Rattle.std.specs.List.{list_any, list_all}
use Rattle.std.proofs.lemmas.Bool.{cases_lt, eq-eqb, ne_eqb}
use Rattle.std.proofs.lemmas.List.{get_or_past}
use Rattle.std.proofs.lemmas.List.Elements.{All-weaker, All-contains_itself}
use Rattle.std.proofs.lemmas.List.Folds.{list_all-append}
use Rattle.cq_common.proofs.WithinLaw.{right}
use Rattle.cq_position.specs.Games.{Node, no_node, node_at, way_up, is_below, is_first_child, is_main, is_searched, IsTree}
use Rattle.cq_position.proofs.Ancestors.{way_step, way_root, reaches}
use Rattle.cq_position.proofs.Trees.{tree_first}

-- the way up from a node that may not be there
abbrev pub way_from : List Node → Option ℕ → List ℕ
way_from nodes None = []
way_from nodes (Some n) = way_up nodes n

pub way_on : (nodes : List Node) (n : ℕ) (o : Option ℕ) → IsTree nodes → (node_at nodes n).parent ≡ o → way_up nodes n ≡ n ∷ way_from nodes o
way_on nodes n None tree is = way_root nodes (tree_first nodes tree) n is
way_on nodes n (Some p) tree is = way_step nodes (tree_first nodes tree) n p is

-- a parent stands before its child, which is a node
pub parent_before : (nodes : List Node) (k p : ℕ) → IsTree nodes → (node_at nodes k).parent ≡ Some p → (p < k) × (k < length nodes)
parent_before nodes k p tree is = (
  (tree_first nodes tree).before k p is,
  elim (cases_lt k (length nodes)) [
    | inl less ↦ less
    | inr past ↦ absurd (let e : None ≡ Some p = ap (λ x. x.parent) (sym (get_or_past nodes k no_node past)) ∙ is in cc)
  ],
)

-- true if a node is another or below it
pub is_below_self : (nodes : List Node) (n : ℕ) → IsTree nodes → is_below nodes n n ≡ true
is_below_self nodes n tree = ap (list_any (λ m. m == n)) (way_on nodes n (node_at nodes n).parent tree refl)
    ∙ ap (λ b. b || list_any (λ m. m == n) (way_from nodes (node_at nodes n).parent)) (eq-eqb n n refl)

below_by : (nodes : List Node) (n k : ℕ) (o : Option ℕ) → IsTree nodes → (node_at nodes k).parent ≡ o → (k ≡ n → ⊥) → is_below nodes n k ≡ list_any (λ m. m == n) (way_from nodes o)
below_by nodes n k o tree is other = ap (list_any (λ m. m == n)) (way_on nodes k o tree is) ∙ ap (λ b. b || list_any (λ m. m == n) (way_from nodes o)) (ne_eqb k n other)

pub below_parent : (nodes : List Node) (n k p : ℕ) → IsTree nodes → (node_at nodes k).parent ≡ Some p → (k ≡ n → ⊥) → is_below nodes n k ≡ is_below nodes n p
below_parent nodes n k p tree is other = below_by nodes n k (Some p) tree is other

pub root_below : (nodes : List Node) (n k : ℕ) → IsTree nodes → (node_at nodes k).parent ≡ None → (k ≡ n → ⊥) → is_below nodes n k ≡ false
root_below nodes n k tree is other = below_by nodes n k None tree is other

-- a searched node has a parent that is searched
main_up : (nodes : List Node) (m p : ℕ) → IsTree nodes → (node_at nodes m).parent ≡ Some p → is_main nodes m ≡ true → is_main nodes p ≡ true
main_up nodes m p tree is e = right _ _ (sym (ap (list_all (λ x. (x == 0) || is_first_child nodes x)) (way_on nodes m (Some p) tree is)) ∙ e)

pub searched_up : (variations : Bool) (nodes : List Node) (m p : ℕ) → IsTree nodes → (node_at nodes m).parent ≡ Some p → is_searched variations nodes m ≡ true → is_searched variations nodes p ≡ true
searched_up true nodes m p tree is e = refl
searched_up false nodes m p tree is e = main_up nodes m p tree is e

-- The whole way up of what is searched is searched: each node on it, and the way as a list.
pub searched_on_way : (variations : Bool) (nodes : List Node) (n m : ℕ) → IsTree nodes → is_searched variations nodes n ≡ true
    → Contains (way_up nodes n) m → is_searched variations nodes m ≡ true
searched_on_way true nodes n m tree is on = refl
searched_on_way false nodes n m tree is on =
    let leads = λ (x : ℕ). (x == 0) || is_first_child nodes x in
    let r = reaches nodes (tree_first nodes tree) n m on in
    right (list_all leads r.before) (list_all leads (way_up nodes m))
    (sym (list_all-append leads r.before (way_up nodes m)) ∙ sym (ap (list_all leads) r.is) ∙ is)

pub searched_way : (variations : Bool) (nodes : List Node) (n : ℕ) → IsTree nodes → is_searched variations nodes n ≡ true
    → All (λ m. is_searched variations nodes m ≡ true) (way_up nodes n)
searched_way variations nodes n tree is =
    All-weaker (Contains (way_up nodes n)) (λ m. is_searched variations nodes m ≡ true)
    (λ m on. searched_on_way variations nodes n m tree is on) (way_up nodes n) (All-contains_itself (way_up nodes n))
