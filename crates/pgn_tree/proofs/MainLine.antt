-- The main line after one more node.
use Rattle.std.proofs.Common.{◌≡◌, ℕ, ◌+◌, ◌<◌, Bool, true, false, cond, List, [], ◌∷◌, ◌++◌, length, Option, Some, None, refl, sym, ap, ap₂, ◌∙◌, arith, add-one, append-nil}
use Rattle.std.specs.Prelude.{◌&&◌, ◌||◌, ◌==◌, not, Contains}
use Rattle.std.specs.Option.{is_some, option_or}
use Rattle.std.specs.List.{filter, list_all, range_with_len}
use Rattle.std.proofs.lemmas.Bool.{false_from_ne_true, eq-eqb}
use Rattle.std.proofs.lemmas.List.Elements.{filter-append, Contains-append_left, Contains-append_right, Contains-push}
use Rattle.std.proofs.Common.{eqb-true}
use Rattle.cq_position.specs.Games.{Node, node_at, is_number, is_child_of, first_child, is_first_child, is_first_child_of, way_up, is_main, main_line, IsTree}
use Rattle.cq_position.proofs.Ancestors.{way_step, way_root, reaches}
use Rattle.cq_position.proofs.Trees.{tree_first, way_in_prefix}
use Rattle.pgn_tree.proofs.Found.{find_within, range_more}
use Rattle.pgn_tree.proofs.Children.{old_node, new_node, first_more, some_or, has_first}

list_all_agree : (f g : ℕ → Bool) (xs : List ℕ) → ((m : ℕ) → Contains xs m → f m ≡ g m) → list_all f xs ≡ list_all g xs
list_all_agree f g [] same = refl
list_all_agree f g (x ∷ xs) same =
    ap₂ (λ s t. s && t) (same x (Contains-append_left (x ∷ []) xs x (Contains-push [] x))) (list_all_agree f g xs (λ m on. same m (Contains-append_right (x ∷ []) xs m on)))

and_swapped : (a b : Bool) → (a && b) ≡ (b && a)
and_swapped true true = refl
and_swapped true false = refl
and_swapped false true = refl
and_swapped false false = refl

pub is_self : (n : ℕ) → is_number (Some n) n ≡ true
is_self n = eq-eqb n n refl

-- the test of a node on the way up
abbrev pub in_line : List Node → ℕ → Bool
in_line nodes m = (m == 0) || is_first_child nodes m

module _ (nodes : List Node) (x : Node) (tree : IsTree nodes) (later : IsTree (nodes ++ x ∷ [])) where
  all : List Node
  all = nodes ++ x ∷ []

  first_stays : (o : Option ℕ) (m : ℕ) → m < length nodes → (node_at nodes m).parent ≡ o → is_first_child_of all o m ≡ is_first_child_of nodes o m
  unfolding all
  first_stays None m h is = refl
  first_stays (Some p) m h is =
      ap (λ f. is_number f m)
      (first_more nodes x p
      ∙ some_or (first_child nodes p) (cond (is_number x.parent p) (Some (length nodes)) None) (has_first nodes p m h (ap (λ f. is_number f p) is ∙ is_self p)))

  in_line_stays : (m : ℕ) → m < length nodes → in_line all m ≡ in_line nodes m
  unfolding all
  in_line_stays m h =
      ap (λ t. (m == 0) || t) (ap (λ y. is_first_child_of all y.parent m) (old_node nodes x m h) ∙ first_stays (node_at nodes m).parent m h refl)

  pub main_stays : (n : ℕ) → n < length nodes → is_main (nodes ++ x ∷ []) n ≡ is_main nodes n
  unfolding all
  main_stays n h =
      ap (list_all (in_line all)) (sym (way_in_prefix nodes (x ∷ []) n tree h))
      ∙ list_all_agree (in_line all) (in_line nodes) (way_up nodes n)
      (λ m on. let less = (reaches nodes (tree_first nodes tree) n m on).less in in_line_stays m (omega (arith, less, h)))

  child_is_first : (o : Option ℕ) → ((c : ℕ) → o ≡ Some c → c < length nodes) → is_number (option_or o (Some (length nodes))) (length nodes) ≡ not (is_some o)
  child_is_first None less = is_self (length nodes)
  child_is_first (Some c) less = false_from_ne_true (c == length nodes) (λ e. let same = eqb-true c (length nodes) e in let h = less c refl in omega (arith, same, h))

  or_false : (n : ℕ) (t : Bool) → 0 < n → ((n == 0) || t) ≡ t
  or_false n t some_ = ap (λ s. s || t) (false_from_ne_true (n == 0) (λ e. let same = eqb-true n 0 e in omega (arith, same, some_)))

  within : (p c : ℕ) → first_child nodes p ≡ Some c → c < length nodes
  unfolding first_child
  within p c is = let less = find_within (is_child_of nodes p) 0 (length nodes) c is in omega (arith, less)

  pub main_new : (p : ℕ) → x.parent ≡ Some p → p < length nodes → is_main (nodes ++ x ∷ []) (length nodes) ≡ (is_main nodes p && not (is_some (first_child nodes p)))
  unfolding all
  main_new p parent h =
      let here : (node_at all (length nodes)).parent ≡ Some p = ap (λ y. y.parent) (new_node nodes x) ∙ parent in
      let first : is_first_child all (length nodes) ≡ not (is_some (first_child nodes p)) =
      ap (λ o. is_first_child_of all o (length nodes)) here
      ∙ ap (λ o. is_number o (length nodes))
      (first_more nodes x p ∙ ap (λ o. option_or (first_child nodes p) (cond (is_number o p) (Some (length nodes)) None)) parent
      ∙ ap (λ t. option_or (first_child nodes p) (cond t (Some (length nodes)) None)) (is_self p))
      ∙ child_is_first (first_child nodes p) (λ c is. within p c is) in
      ap (list_all (in_line all)) (way_step all (tree_first all later) (length nodes) p here)
      ∙ ap (λ t. t && is_main all p) (or_false (length nodes) (is_first_child all (length nodes)) tree.rooted ∙ first)
      ∙ ap (λ t. not (is_some (first_child nodes p)) && t) (main_stays p h)
      ∙ and_swapped (not (is_some (first_child nodes p))) (is_main nodes p)

pub root_is_main : (nodes : List Node) → IsTree nodes → is_main nodes 0 ≡ true
root_is_main nodes tree = ap (list_all (in_line nodes)) (way_root nodes (tree_first nodes tree) 0 tree.root.parent)

pub filter_more : (p : ℕ → Bool) (k : ℕ) → filter p (range_with_len 0 (k + 1)) ≡ filter p (range_with_len 0 k) ++ cond (p k) (k ∷ []) []
filter_more p k =
    ap (λ n. filter p (range_with_len 0 n)) (add-one k)
    ∙ ap (filter p) (range_more 0 k ∙ ap (λ n. range_with_len 0 k ++ n ∷ []) (let e : 0 + k ≡ k = omega arith in e))
    ∙ filter-append p (range_with_len 0 k) (k ∷ [])

-- the main line of more and more nodes
pub line_more : (nodes : List Node) (k : ℕ) (line new : List ℕ) → line ≡ filter (is_main nodes) (range_with_len 0 k) → true ≡ is_main nodes k
    → new ≡ line ++ k ∷ [] → new ≡ filter (is_main nodes) (range_with_len 0 (k + 1))
line_more nodes k line new is main new_is =
    new_is ∙ ap (λ l. l ++ k ∷ []) is ∙ ap (λ t. filter (is_main nodes) (range_with_len 0 k) ++ cond t (k ∷ []) []) main ∙ sym (filter_more (is_main nodes) k)

pub line_same : (nodes : List Node) (k : ℕ) (line new : List ℕ) → line ≡ filter (is_main nodes) (range_with_len 0 k) → false ≡ is_main nodes k
    → new ≡ line → new ≡ filter (is_main nodes) (range_with_len 0 (k + 1))
line_same nodes k line new is main new_is =
    new_is ∙ is ∙ sym (append-nil (filter (is_main nodes) (range_with_len 0 k)))
    ∙ ap (λ t. filter (is_main nodes) (range_with_len 0 k) ++ cond t (k ∷ []) []) main ∙ sym (filter_more (is_main nodes) k)

pub line_all : (nodes : List Node) (k : ℕ) (line : List ℕ) → line ≡ filter (is_main nodes) (range_with_len 0 k) → k ≡ length nodes → line ≡ main_line nodes
unfolding main_line
line_all nodes k line is all_ = is ∙ ap (λ n. filter (is_main nodes) (range_with_len 0 n)) all_
